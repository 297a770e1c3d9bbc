-- The fields of the terminals that jump or end a run, and of the one that may throw.
use Rattle.std.specs.Prelude.{ℕ, List, [], ◌∷◌, codes}
use Rattle.rc_misread.specs.declared.form.Form.TheVariants as forms
use Rattle.rc_misread.specs.declared.form.Need.TheVariants as needs
use Rattle.rc_misread.specs.Forms.{Row}

-- of each terminal of this family by its name, in the order in which they are read
abbrev pub jump_fields : List (List ℕ × List Row)
jump_fields = (
  codes "Throw",
  (codes "value", needs.Required, forms.Place) ∷ (codes "id", needs.Required, forms.Number)
      ∷ (codes "span", needs.Optional, forms.Span) ∷ [],
)
    ∷ (
      codes "Return",
      (codes "value", needs.Required, forms.Place) ∷ (codes "id", needs.Required, forms.Number)
          ∷ (codes "span", needs.Optional, forms.Span) ∷ [],
    )
    ∷ (
      codes "Goto",
      (codes "block", needs.Required, forms.Number) ∷ (codes "variant", needs.Required, forms.GotoVariant)
          ∷ (codes "id", needs.Required, forms.Number) ∷ (codes "span", needs.Optional, forms.Span) ∷ [],
    )
    ∷ (
      codes "Unreachable",
      (codes "id", needs.Required, forms.Number) ∷ (codes "span", needs.Optional, forms.Span) ∷ [],
    )
    ∷ (
      codes "MaybeThrow",
      (codes "continuation", needs.Required, forms.Number) ∷ (codes "handler", needs.Optional, forms.Number)
          ∷ (codes "id", needs.Required, forms.Number) ∷ (codes "span", needs.Optional, forms.Span) ∷ [],
    )
    ∷ []
