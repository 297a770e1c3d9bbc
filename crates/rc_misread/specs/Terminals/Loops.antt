-- The fields of the loops.
use Rattle.std.specs.Prelude.{ℕ, List, [], ◌∷◌, codes}
use Rattle.rc_misread.specs.declared.form.Form.TheVariants as forms
use Rattle.rc_misread.specs.declared.form.Need.TheVariants as needs
use Rattle.rc_misread.specs.Forms.{Row}

-- of each terminal of this family by its name, in the order in which they are read
abbrev pub loop_fields : List (List ℕ × List Row)
loop_fields = (
  codes "DoWhile",
  (codes "loop_block", needs.Required, forms.Number) ∷ (codes "test", needs.Required, forms.Number)
      ∷ (codes "fallthrough", needs.Required, forms.Number) ∷ (codes "id", needs.Required, forms.Number)
      ∷ (codes "span", needs.Optional, forms.Span) ∷ [],
)
    ∷ (
      codes "While",
      (codes "test", needs.Required, forms.Number) ∷ (codes "loop_block", needs.Required, forms.Number)
          ∷ (codes "fallthrough", needs.Required, forms.Number) ∷ (codes "id", needs.Required, forms.Number)
          ∷ (codes "span", needs.Optional, forms.Span) ∷ [],
    )
    ∷ (
      codes "For",
      (codes "init", needs.Required, forms.Number) ∷ (codes "test", needs.Required, forms.Number)
          ∷ (codes "update", needs.Optional, forms.Number) ∷ (codes "loop_block", needs.Required, forms.Number)
          ∷ (codes "fallthrough", needs.Required, forms.Number) ∷ (codes "id", needs.Required, forms.Number)
          ∷ (codes "span", needs.Optional, forms.Span) ∷ [],
    )
    ∷ (
      codes "ForOf",
      (codes "init", needs.Required, forms.Number) ∷ (codes "test", needs.Required, forms.Number)
          ∷ (codes "loop_block", needs.Required, forms.Number) ∷ (codes "fallthrough", needs.Required, forms.Number)
          ∷ (codes "id", needs.Required, forms.Number) ∷ (codes "span", needs.Optional, forms.Span) ∷ [],
    )
    ∷ (
      codes "ForIn",
      (codes "init", needs.Required, forms.Number) ∷ (codes "loop_block", needs.Required, forms.Number)
          ∷ (codes "fallthrough", needs.Required, forms.Number) ∷ (codes "id", needs.Required, forms.Number)
          ∷ (codes "span", needs.Optional, forms.Span) ∷ [],
    )
    ∷ []
