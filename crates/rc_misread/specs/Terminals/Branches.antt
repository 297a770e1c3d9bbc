-- The fields of the terminals that choose between blocks.
use Rattle.std.specs.Prelude.{ℕ, List, [], ◌∷◌, codes}
use Rattle.rc_misread.specs.declared.form.Form.TheVariants as forms
use Rattle.rc_misread.specs.declared.form.Need.TheVariants as needs
use Rattle.rc_misread.specs.Forms.{Row}

-- of each terminal of this family by its name, in the order in which they are read
abbrev pub branch_fields : List (List ℕ × List Row)
branch_fields = (
  codes "If",
  (codes "test", needs.Required, forms.Place) ∷ (codes "consequent", needs.Required, forms.Number)
      ∷ (codes "alternate", needs.Required, forms.Number) ∷ (codes "fallthrough", needs.Required, forms.Number)
      ∷ (codes "id", needs.Required, forms.Number) ∷ (codes "span", needs.Optional, forms.Span) ∷ [],
)
    ∷ (
      codes "Branch",
      (codes "test", needs.Required, forms.Place) ∷ (codes "consequent", needs.Required, forms.Number)
          ∷ (codes "alternate", needs.Required, forms.Number) ∷ (codes "id", needs.Required, forms.Number)
          ∷ (codes "span", needs.Optional, forms.Span) ∷ [],
    )
    ∷ (
      codes "Logical",
      (codes "operator", needs.Required, forms.LogicalOperator) ∷ (codes "test", needs.Required, forms.Number)
          ∷ (codes "fallthrough", needs.Required, forms.Number) ∷ (codes "id", needs.Required, forms.Number)
          ∷ (codes "span", needs.Optional, forms.Span) ∷ [],
    )
    ∷ (
      codes "Ternary",
      (codes "test", needs.Required, forms.Number) ∷ (codes "fallthrough", needs.Required, forms.Number)
          ∷ (codes "id", needs.Required, forms.Number) ∷ (codes "span", needs.Optional, forms.Span) ∷ [],
    )
    ∷ (
      codes "Optional",
      (codes "optional", needs.Flag, forms.Flag) ∷ (codes "test", needs.Required, forms.Number)
          ∷ (codes "fallthrough", needs.Required, forms.Number) ∷ (codes "id", needs.Required, forms.Number)
          ∷ (codes "span", needs.Optional, forms.Span) ∷ [],
    )
    ∷ (
      codes "Switch",
      (codes "test", needs.Required, forms.Place) ∷ (codes "cases", needs.List, forms.Case)
          ∷ (codes "fallthrough", needs.Required, forms.Number) ∷ (codes "id", needs.Required, forms.Number)
          ∷ (codes "span", needs.Optional, forms.Span) ∷ [],
    )
    ∷ []
