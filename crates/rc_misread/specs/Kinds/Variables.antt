-- The fields of the kinds that read, declare and write variables.
use Rattle.std.specs.Prelude.{ℕ, List, [], ◌∷◌, codes}
use Rattle.rc_misread.specs.declared.form.Form.TheVariants as forms
use Rattle.rc_misread.specs.declared.form.Need.TheVariants as needs
use Rattle.rc_misread.specs.Forms.{Row}

-- of each kind of this family by its name, in the order in which they are read
abbrev pub variable_fields : List (List ℕ × List Row)
variable_fields = (
  codes "LoadLocal",
  (codes "place", needs.Required, forms.Place) ∷ (codes "span", needs.Optional, forms.Span) ∷ [],
)
    ∷ (
      codes "LoadContext",
      (codes "place", needs.Required, forms.Place) ∷ (codes "span", needs.Optional, forms.Span) ∷ [],
    )
    ∷ (
      codes "DeclareLocal",
      (codes "lvalue", needs.Required, forms.LValue) ∷ (codes "span", needs.Optional, forms.Span) ∷ [],
    )
    ∷ (
      codes "DeclareContext",
      (codes "lvalue", needs.Required, forms.LValue) ∷ (codes "span", needs.Optional, forms.Span) ∷ [],
    )
    ∷ (
      codes "StoreLocal",
      (codes "lvalue", needs.Required, forms.LValue) ∷ (codes "value", needs.Required, forms.Place)
          ∷ (codes "span", needs.Optional, forms.Span) ∷ [],
    )
    ∷ (
      codes "StoreContext",
      (codes "lvalue", needs.Required, forms.LValue) ∷ (codes "value", needs.Required, forms.Place)
          ∷ (codes "span", needs.Optional, forms.Span) ∷ [],
    )
    ∷ (
      codes "Destructure",
      (codes "lvalue", needs.Required, forms.LValuePattern) ∷ (codes "value", needs.Required, forms.Place)
          ∷ (codes "span", needs.Optional, forms.Span) ∷ [],
    )
    ∷ (
      codes "LoadGlobal",
      (codes "binding", needs.Required, forms.Binding) ∷ (codes "span", needs.Optional, forms.Span) ∷ [],
    )
    ∷ (
      codes "StoreGlobal",
      (codes "name", needs.Required, forms.Text) ∷ (codes "value", needs.Required, forms.Place)
          ∷ (codes "span", needs.Optional, forms.Span) ∷ [],
    )
    ∷ (
      codes "PrefixUpdate",
      (codes "lvalue", needs.Required, forms.Place) ∷ (codes "operation", needs.Required, forms.Text)
          ∷ (codes "value", needs.Required, forms.Place) ∷ (codes "span", needs.Optional, forms.Span) ∷ [],
    )
    ∷ (
      codes "PostfixUpdate",
      (codes "lvalue", needs.Required, forms.Place) ∷ (codes "operation", needs.Required, forms.Text)
          ∷ (codes "value", needs.Required, forms.Place) ∷ (codes "span", needs.Optional, forms.Span) ∷ [],
    )
    ∷ []
