-- The fields of the terminals that hold a block.
use Rattle.std.specs.Prelude.{ℕ, List, [], ◌∷◌, codes}
use Rattle.rc_misread.specs.declared.form.Form.TheVariants as forms
use Rattle.rc_misread.specs.declared.form.Need.TheVariants as needs
use Rattle.rc_misread.specs.Forms.{Row}

-- of each terminal of this family by its name, in the order in which they are read
abbrev pub block_fields : List (List ℕ × List Row)
block_fields = (
  codes "Sequence",
  (codes "block", needs.Required, forms.Number) ∷ (codes "fallthrough", needs.Required, forms.Number)
      ∷ (codes "id", needs.Required, forms.Number) ∷ (codes "span", needs.Optional, forms.Span) ∷ [],
)
    ∷ (
      codes "Label",
      (codes "block", needs.Required, forms.Number) ∷ (codes "fallthrough", needs.Required, forms.Number)
          ∷ (codes "id", needs.Required, forms.Number) ∷ (codes "span", needs.Optional, forms.Span) ∷ [],
    )
    ∷ (
      codes "Scope",
      (codes "fallthrough", needs.Required, forms.Number) ∷ (codes "block", needs.Required, forms.Number)
          ∷ (codes "scope", needs.Required, forms.Number) ∷ (codes "id", needs.Required, forms.Number)
          ∷ (codes "span", needs.Optional, forms.Span) ∷ [],
    )
    ∷ (
      codes "PrunedScope",
      (codes "fallthrough", needs.Required, forms.Number) ∷ (codes "block", needs.Required, forms.Number)
          ∷ (codes "scope", needs.Required, forms.Number) ∷ (codes "id", needs.Required, forms.Number)
          ∷ (codes "span", needs.Optional, forms.Span) ∷ [],
    )
    ∷ (
      codes "Try",
      (codes "block", needs.Required, forms.Number) ∷ (codes "handler_binding", needs.Optional, forms.Place)
          ∷ (codes "handler", needs.Required, forms.Number) ∷ (codes "fallthrough", needs.Required, forms.Number)
          ∷ (codes "id", needs.Required, forms.Number) ∷ (codes "span", needs.Optional, forms.Span) ∷ [],
    )
    ∷ []
