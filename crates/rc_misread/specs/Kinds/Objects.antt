-- The fields of the kinds that make objects, arrays and JSX, and that reach into them.
use Rattle.std.specs.Prelude.{ℕ, List, [], ◌∷◌, codes}
use Rattle.rc_misread.specs.declared.form.Form.TheVariants as forms
use Rattle.rc_misread.specs.declared.form.Need.TheVariants as needs
use Rattle.rc_misread.specs.Forms.{Row}

-- of each kind of this family by its name, in the order in which they are read
abbrev pub object_fields : List (List ℕ × List Row)
object_fields = (
  codes "ObjectExpression",
  (codes "properties", needs.List, forms.Property) ∷ (codes "span", needs.Optional, forms.Span) ∷ [],
)
    ∷ (
      codes "ArrayExpression",
      (codes "elements", needs.List, forms.Element) ∷ (codes "span", needs.Optional, forms.Span) ∷ [],
    )
    ∷ (
      codes "JsxExpression",
      (codes "tag", needs.Required, forms.JsxTag) ∷ (codes "props", needs.List, forms.JsxAttribute)
          ∷ (codes "children", needs.OptionalList, forms.Place) ∷ (codes "span", needs.Optional, forms.Span) ∷ [],
    )
    ∷ (
      codes "JsxFragment",
      (codes "children", needs.List, forms.Place) ∷ (codes "span", needs.Optional, forms.Span) ∷ [],
    )
    ∷ (
      codes "PropertyLoad",
      (codes "object", needs.Required, forms.Place) ∷ (codes "property", needs.Required, forms.PropertyLiteral)
          ∷ (codes "span", needs.Optional, forms.Span) ∷ [],
    )
    ∷ (
      codes "PropertyDelete",
      (codes "object", needs.Required, forms.Place) ∷ (codes "property", needs.Required, forms.PropertyLiteral)
          ∷ (codes "span", needs.Optional, forms.Span) ∷ [],
    )
    ∷ (
      codes "PropertyStore",
      (codes "object", needs.Required, forms.Place) ∷ (codes "property", needs.Required, forms.PropertyLiteral)
          ∷ (codes "value", needs.Required, forms.Place) ∷ (codes "span", needs.Optional, forms.Span) ∷ [],
    )
    ∷ (
      codes "ComputedLoad",
      (codes "object", needs.Required, forms.Place) ∷ (codes "property", needs.Required, forms.Place)
          ∷ (codes "span", needs.Optional, forms.Span) ∷ [],
    )
    ∷ (
      codes "ComputedDelete",
      (codes "object", needs.Required, forms.Place) ∷ (codes "property", needs.Required, forms.Place)
          ∷ (codes "span", needs.Optional, forms.Span) ∷ [],
    )
    ∷ (
      codes "ComputedStore",
      (codes "object", needs.Required, forms.Place) ∷ (codes "property", needs.Required, forms.Place)
          ∷ (codes "value", needs.Required, forms.Place) ∷ (codes "span", needs.Optional, forms.Span) ∷ [],
    )
    ∷ []
