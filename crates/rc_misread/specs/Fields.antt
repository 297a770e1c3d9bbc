-- The fields of each form.
use Rattle.std.specs.Prelude.{ℕ, List, [], ◌∷◌, Option, Some, codes}
use Rattle.rc_doc.specs.Reading.{named}
use Rattle.rc_misread.specs.declared.form.Form.TheVariants as forms
use Rattle.rc_misread.specs.declared.form.Need.TheVariants as needs
use Rattle.rc_misread.specs.declared.form.Form.{Form}
use Rattle.rc_misread.specs.Forms.{Row}
use Rattle.rc_misread.specs.Kinds.{value_fields}
use Rattle.rc_misread.specs.Terminals.{terminal_fields}

-- of a place or spread with this variant
abbrev pub place_or_spread_fields : List ℕ → Option (List Row)
place_or_spread_fields = named (
    (codes "Place", (codes "v", needs.Required, forms.Place) ∷ [])
    ∷ (codes "Spread", (codes "v", needs.Required, forms.Spread) ∷ [])
    ∷ [])

-- of a name of a property with this variant
abbrev pub property_literal_fields : List ℕ → Option (List Row)
property_literal_fields = named (
    (codes "String", (codes "v", needs.Required, forms.Text) ∷ [])
    ∷ (codes "Number", (codes "v", needs.Required, forms.Text) ∷ [])
    ∷ [])

-- of a key of a property with this variant
abbrev pub property_key_fields : List ℕ → Option (List Row)
property_key_fields = named (
    (codes "Identifier", (codes "v", needs.Required, forms.Text) ∷ [])
    ∷ (codes "String", (codes "v", needs.Required, forms.Text) ∷ [])
    ∷ (codes "Number", (codes "v", needs.Required, forms.Text) ∷ [])
    ∷ (codes "Computed", (codes "v", needs.Required, forms.Place) ∷ [])
    ∷ [])

-- of an entry of an object with this variant
abbrev pub property_fields : List ℕ → Option (List Row)
property_fields = named (
    (codes "Property", (codes "v", needs.Required, forms.ObjectProperty) ∷ [])
    ∷ (codes "Spread", (codes "v", needs.Required, forms.Spread) ∷ [])
    ∷ [])

-- of a pattern with this variant
abbrev pub pattern_fields : List ℕ → Option (List Row)
pattern_fields = named (
    (codes "Array", (codes "items", needs.List, forms.PatternElement) ∷ [])
    ∷ (codes "Object", (codes "properties", needs.List, forms.Property) ∷ [])
    ∷ [])

-- of a literal with this variant
abbrev pub primitive_fields : List ℕ → Option (List Row)
primitive_fields = named (
    (codes "Boolean", (codes "v", needs.Flag, forms.Flag) ∷ [])
    ∷ (codes "Number", (codes "v", needs.Required, forms.Text) ∷ [])
    ∷ (codes "String", (codes "v", needs.Required, forms.Text) ∷ [])
    ∷ [])

-- of a name from outside the function with this variant
abbrev pub binding_fields : List ℕ → Option (List Row)
binding_fields = named (
    (codes "Global", (codes "name", needs.Required, forms.Text) ∷ [])
    ∷ (codes "Module", (codes "name", needs.Required, forms.Text) ∷ (codes "module", needs.Required, forms.Text) ∷ [])
    ∷ [])

-- of a tag of a JSX element with this variant
abbrev pub jsx_tag_fields : List ℕ → Option (List Row)
jsx_tag_fields = named (
    (codes "Place", (codes "v", needs.Required, forms.Place) ∷ [])
    ∷ (codes "Builtin", (codes "v", needs.Required, forms.Text) ∷ [])
    ∷ [])

-- of an attribute of a JSX element with this variant
abbrev pub jsx_attribute_fields : List ℕ → Option (List Row)
jsx_attribute_fields = named (
    (codes "Attribute", (codes "name", needs.Required, forms.Text) ∷ (codes "place", needs.Required, forms.Place) ∷ [])
    ∷ (codes "SpreadAttribute", (codes "argument", needs.Required, forms.Place) ∷ [])
    ∷ [])

-- of a name of an identifier with this variant
abbrev pub identifier_name_fields : List ℕ → Option (List Row)
identifier_name_fields = named (
    (codes "Named", (codes "v", needs.Required, forms.Text) ∷ [])
    ∷ (codes "Promoted", (codes "v", needs.Required, forms.Text) ∷ [])
    ∷ [])

-- of a shape with this variant
abbrev pub shape_fields : List ℕ → Option (List Row)
shape_fields = named (
    (codes "Row", (codes "v", needs.Required, forms.Number) ∷ [])
    ∷ [])

-- of a type of an identifier with this variant
abbrev pub type_fields : List ℕ → Option (List Row)
type_fields = named (
    (codes "Object", (codes "shape", needs.Optional, forms.Shape) ∷ [])
    ∷ (codes "Function", (codes "shape", needs.Optional, forms.Shape) ∷ [])
    ∷ [])

-- the fields of a value of this form, in the order in which they are read; of a form with variants those of the variant
-- with that tag, if there is one
abbrev pub fields_of : Form → List ℕ → Option (List Row)
fields_of forms.Number tag = Some []
fields_of forms.Flag tag = Some []
fields_of forms.Text tag = Some []
fields_of forms.Span tag = Some []
fields_of forms.Place tag = Some []
fields_of forms.Spread tag = Some ((codes "place", needs.Required, forms.Place) ∷ [])
fields_of forms.Param tag = place_or_spread_fields tag
fields_of forms.Argument tag = place_or_spread_fields tag
fields_of forms.InstructionKind tag = Some []
fields_of forms.LValue tag =
    Some ((codes "kind", needs.Required, forms.InstructionKind) ∷ (codes "place", needs.Required, forms.Place) ∷ [])
fields_of forms.PropertyLiteral tag = property_literal_fields tag
fields_of forms.PropertyKey tag = property_key_fields tag
fields_of forms.ObjectProperty tag =
    Some ((codes "key", needs.Required, forms.PropertyKey) ∷ (codes "place", needs.Required, forms.Place) ∷ [])
fields_of forms.Property tag = property_fields tag
fields_of forms.PatternElement tag = place_or_spread_fields tag
fields_of forms.Element tag = place_or_spread_fields tag
fields_of forms.Pattern tag = pattern_fields tag
fields_of forms.LValuePattern tag =
    Some ((codes "kind", needs.Required, forms.InstructionKind) ∷ (codes "pattern", needs.Required, forms.Pattern) ∷ [])
fields_of forms.PrimitiveValue tag = primitive_fields tag
fields_of forms.Binding tag = binding_fields tag
fields_of forms.JsxTag tag = jsx_tag_fields tag
fields_of forms.JsxAttribute tag = jsx_attribute_fields tag
fields_of forms.LoweredFunction tag = Some ((codes "func", needs.Required, forms.Number) ∷ [])
fields_of forms.InstructionValue tag = value_fields tag
fields_of forms.LogicalOperator tag = Some []
fields_of forms.GotoVariant tag = Some []
fields_of forms.Case tag =
    Some ((codes "test", needs.Optional, forms.Place) ∷ (codes "block", needs.Required, forms.Number) ∷ [])
fields_of forms.Terminal tag = terminal_fields tag
fields_of forms.Instruction tag =
    Some ((codes "id", needs.Required, forms.Number) ∷ (codes "lvalue", needs.Required, forms.Place)
    ∷ (codes "value", needs.Required, forms.InstructionValue) ∷ (codes "span", needs.Optional, forms.Span) ∷ [])
fields_of forms.Block tag =
    Some ((codes "id", needs.Required, forms.Number) ∷ (codes "instructions", needs.List, forms.Number)
    ∷ (codes "terminal", needs.Required, forms.Terminal) ∷ (codes "key", needs.Optional, forms.Number) ∷ [])
fields_of forms.Blocks tag = Some []
fields_of forms.Graph tag =
    Some ((codes "entry", needs.Required, forms.Number) ∷ (codes "blocks", needs.Required, forms.Blocks) ∷ [])
fields_of forms.Function tag =
    Some ((codes "span", needs.Optional, forms.Span) ∷ (codes "id", needs.Optional, forms.Text)
    ∷ (codes "name_hint", needs.Optional, forms.Text) ∷ (codes "params", needs.List, forms.Param)
    ∷ (codes "generator", needs.Flag, forms.Flag) ∷ (codes "is_async", needs.Flag, forms.Flag)
    ∷ (codes "context", needs.List, forms.Place) ∷ (codes "body", needs.Required, forms.Graph)
    ∷ (codes "instructions", needs.List, forms.Instruction) ∷ (codes "directives", needs.List, forms.Text) ∷ [])
fields_of forms.IdentifierName tag = identifier_name_fields tag
fields_of forms.Identifier tag =
    Some ((codes "declaration_id", needs.Required, forms.Number) ∷ (codes "name", needs.Optional, forms.IdentifierName)
    ∷ (codes "scope", needs.Optional, forms.Number) ∷ (codes "type_", needs.Required, forms.Number)
    ∷ (codes "span", needs.Optional, forms.Span) ∷ [])
fields_of forms.Shape tag = shape_fields tag
fields_of forms.Type tag = type_fields tag
fields_of forms.ShapeRow tag =
    Some ((codes "hook", needs.Flag, forms.Flag) ∷ (codes "no_alias", needs.Flag, forms.Flag) ∷ [])
fields_of forms.Range tag =
    Some ((codes "start", needs.Required, forms.Number) ∷ (codes "end", needs.Required, forms.Number) ∷ [])
fields_of forms.PathEntry tag =
    Some ((codes "property", needs.Required, forms.PropertyLiteral) ∷ (codes "optional", needs.Flag, forms.Flag) ∷ [])
fields_of forms.Dependency tag =
    Some ((codes "identifier", needs.Required, forms.Number) ∷ (codes "reactive", needs.Flag, forms.Flag)
    ∷ (codes "path", needs.List, forms.PathEntry) ∷ (codes "span", needs.Optional, forms.Span) ∷ [])
fields_of forms.Declaration tag =
    Some ((codes "identifier", needs.Required, forms.Number) ∷ (codes "scope", needs.Required, forms.Number) ∷ [])
fields_of forms.DeclarationEntry tag =
    Some ((codes "key", needs.Required, forms.Number) ∷ (codes "value", needs.Required, forms.Declaration) ∷ [])
fields_of forms.EarlyReturn tag =
    Some ((codes "value", needs.Required, forms.Number) ∷ (codes "span", needs.Optional, forms.Span)
    ∷ (codes "label", needs.Required, forms.Number) ∷ [])
fields_of forms.Scope tag =
    Some ((codes "range", needs.Required, forms.Range) ∷ (codes "dependencies", needs.List, forms.Dependency)
    ∷ (codes "declarations", needs.List, forms.DeclarationEntry) ∷ (codes "reassignments", needs.List, forms.Number)
    ∷ (codes "early_return_value", needs.Optional, forms.EarlyReturn) ∷ (codes "merged", needs.List, forms.Number) ∷ [])
fields_of forms.Config tag =
    Some ((codes "enable_forest", needs.Flag, forms.Flag)
    ∷ (codes "enable_preserve_existing_memoization_guarantees", needs.Flag, forms.Flag) ∷ [])
fields_of forms.Environment tag =
    Some ((codes "identifiers", needs.List, forms.Identifier) ∷ (codes "types", needs.List, forms.Type)
    ∷ (codes "scopes", needs.List, forms.Scope) ∷ (codes "functions", needs.List, forms.Function)
    ∷ (codes "shapes", needs.List, forms.ShapeRow) ∷ (codes "config", needs.Required, forms.Config)
    ∷ (codes "next_block", needs.Required, forms.Number) ∷ [])
fields_of forms.Document tag =
    Some ((codes "hir", needs.Required, forms.Function) ∷ (codes "env", needs.Required, forms.Environment) ∷ [])
