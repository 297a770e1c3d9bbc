-- The fields of the kinds that call, that make functions, and that mark a place in the source.
use Rattle.std.specs.Prelude.{ℕ, List, [], ◌∷◌, codes}
use Rattle.rc_misread.specs.declared.form.Form.TheVariants as forms
use Rattle.rc_misread.specs.declared.form.Need.TheVariants as needs
use Rattle.rc_misread.specs.Forms.{Row}

-- of each kind of this family by its name, in the order in which they are read
abbrev pub call_fields : List (List ℕ × List Row)
call_fields = (
  codes "NewExpression",
  (codes "callee", needs.Required, forms.Place) ∷ (codes "args", needs.List, forms.Argument)
      ∷ (codes "span", needs.Optional, forms.Span) ∷ [],
)
    ∷ (
      codes "CallExpression",
      (codes "callee", needs.Required, forms.Place) ∷ (codes "args", needs.List, forms.Argument)
          ∷ (codes "span", needs.Optional, forms.Span) ∷ [],
    )
    ∷ (
      codes "MethodCall",
      (codes "receiver", needs.Required, forms.Place) ∷ (codes "property", needs.Required, forms.Place)
          ∷ (codes "args", needs.List, forms.Argument) ∷ (codes "span", needs.Optional, forms.Span) ∷ [],
    )
    ∷ (
      codes "ObjectMethod",
      (codes "lowered_func", needs.Required, forms.LoweredFunction) ∷ (codes "span", needs.Optional, forms.Span)
          ∷ [],
    )
    ∷ (
      codes "FunctionExpression",
      (codes "name", needs.Optional, forms.Text) ∷ (codes "lowered_func", needs.Required, forms.LoweredFunction)
          ∷ (codes "span", needs.Optional, forms.Span) ∷ [],
    )
    ∷ (codes "Debugger", (codes "span", needs.Optional, forms.Span) ∷ [])
    ∷ (
      codes "StartMemoize",
      (codes "manual_memo_id", needs.Required, forms.Number) ∷ (codes "deps", needs.List, forms.Place)
          ∷ (codes "span", needs.Optional, forms.Span) ∷ [],
    )
    ∷ (
      codes "FinishMemoize",
      (codes "manual_memo_id", needs.Required, forms.Number) ∷ (codes "decl", needs.Required, forms.Place)
          ∷ (codes "pruned", needs.Flag, forms.Flag) ∷ (codes "span", needs.Optional, forms.Span) ∷ [],
    )
    ∷ []
