-- The fields of the kinds that compute a value from texts and operands.
use Rattle.std.specs.Prelude.{ℕ, List, [], ◌∷◌, codes}
use Rattle.rc_misread.specs.declared.form.Form.TheVariants as forms
use Rattle.rc_misread.specs.declared.form.Need.TheVariants as needs
use Rattle.rc_misread.specs.Forms.{Row}

-- of each kind of this family by its name, in the order in which they are read
abbrev pub expression_fields : List (List ℕ × List Row)
expression_fields = (
  codes "Primitive",
  (codes "value", needs.Required, forms.PrimitiveValue) ∷ (codes "span", needs.Optional, forms.Span) ∷ [],
)
    ∷ (codes "JSXText", (codes "value", needs.Required, forms.Text) ∷ (codes "span", needs.Optional, forms.Span) ∷ [])
    ∷ (
      codes "BinaryExpression",
      (codes "operator", needs.Required, forms.Text) ∷ (codes "left", needs.Required, forms.Place)
          ∷ (codes "right", needs.Required, forms.Place) ∷ (codes "span", needs.Optional, forms.Span) ∷ [],
    )
    ∷ (
      codes "UnaryExpression",
      (codes "operator", needs.Required, forms.Text) ∷ (codes "value", needs.Required, forms.Place)
          ∷ (codes "span", needs.Optional, forms.Span) ∷ [],
    )
    ∷ (
      codes "TypeCastExpression",
      (codes "value", needs.Required, forms.Place) ∷ (codes "annotation", needs.Required, forms.Text)
          ∷ (codes "span", needs.Optional, forms.Span) ∷ [],
    )
    ∷ (codes "Await", (codes "value", needs.Required, forms.Place) ∷ (codes "span", needs.Optional, forms.Span) ∷ [])
    ∷ (
      codes "RegExpLiteral",
      (codes "pattern", needs.Required, forms.Text) ∷ (codes "flags", needs.Required, forms.Text)
          ∷ (codes "span", needs.Optional, forms.Span) ∷ [],
    )
    ∷ (
      codes "MetaProperty",
      (codes "meta", needs.Required, forms.Text) ∷ (codes "property", needs.Required, forms.Text)
          ∷ (codes "span", needs.Optional, forms.Span) ∷ [],
    )
    ∷ (
      codes "TaggedTemplateExpression",
      (codes "tag", needs.Required, forms.Place) ∷ (codes "quasi", needs.Required, forms.Text)
          ∷ (codes "span", needs.Optional, forms.Span) ∷ [],
    )
    ∷ (
      codes "TemplateLiteral",
      (codes "subexprs", needs.List, forms.Place) ∷ (codes "quasis", needs.List, forms.Text)
          ∷ (codes "span", needs.Optional, forms.Span) ∷ [],
    )
    ∷ (
      codes "GetIterator",
      (codes "collection", needs.Required, forms.Place) ∷ (codes "span", needs.Optional, forms.Span) ∷ [],
    )
    ∷ (
      codes "IteratorNext",
      (codes "iterator", needs.Required, forms.Place) ∷ (codes "collection", needs.Required, forms.Place)
          ∷ (codes "span", needs.Optional, forms.Span) ∷ [],
    )
    ∷ (
      codes "NextPropertyOf",
      (codes "value", needs.Required, forms.Place) ∷ (codes "span", needs.Optional, forms.Span) ∷ [],
    )
    ∷ []
