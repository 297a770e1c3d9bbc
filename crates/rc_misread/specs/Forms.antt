-- What a part of a document is asked to be, and whether it is read as that.
use Rattle.std.specs.Prelude.{ℕ, Bool, true, false, List, Option, is_some, if◌then◌else◌}
use Rattle.serde_json.specs.Data.{Data}
use Rattle.rc_doc.specs.Document.{doc_of}
use Rattle.rc_doc.specs.Environment.{config_of, environment_of, identifier_name_of, identifier_of}
use Rattle.rc_doc.specs.Environment.Scopes.{declaration_entry_of, declaration_of, dependency_of, early_return_of}
use Rattle.rc_doc.specs.Environment.Scopes.{path_entry_of, range_of, scope_of}
use Rattle.rc_doc.specs.Environment.Types.{shape_of, shape_row_of, type_of}
use Rattle.rc_doc.specs.Graph.{block_of, blocks_of, function_of, hir_of, instruction_of}
use Rattle.rc_doc.specs.Kinds.{instruction_value_of}
use Rattle.rc_doc.specs.Parts.{binding_of, jsx_attribute_of, jsx_tag_of, lowered_function_of, primitive_value_of}
use Rattle.rc_doc.specs.Patterns.{element_of, kind_of, lvalue_of, lvalue_pattern_of, object_property_of, pattern_of}
use Rattle.rc_doc.specs.Patterns.{pattern_element_of, property_key_of, property_literal_of, property_of}
use Rattle.rc_doc.specs.Places.{argument_of, param_of, place_of, span_of, spread_of}
use Rattle.rc_doc.specs.Reading.{flag_of, list_of, number_of, text_of}
use Rattle.rc_doc.specs.Terminals.{terminal_of}
use Rattle.rc_doc.specs.Terminals.Branches.{case_of, logical_operator_of}
use Rattle.rc_doc.specs.Terminals.Jumps.{goto_variant_of}
use Rattle.rc_misread.specs.declared.form.Asked.{Asked}
use Rattle.rc_misread.specs.declared.form.Field.{Field}
use Rattle.rc_misread.specs.declared.form.Form.{Form}
use Rattle.rc_misread.specs.declared.form.Form.TheVariants as forms
use Rattle.rc_misread.specs.declared.form.Need.{Need}
use Rattle.rc_misread.specs.declared.form.Need.TheVariants as needs

-- a field: its name, whether it must be there, and its form or that of its items
abbrev pub Row : Type 0
Row = List ℕ × Need × Form

-- a field of the code's tables
abbrev pub row_of : Field → Row
row_of field = (field.0.now, field.1, field.2)

-- the field is a list
abbrev pub is_list : Need → Bool
is_list needs.List = true
is_list needs.OptionalList = true
is_list _ = false

-- the field may be null
abbrev pub may_be_null : Need → Bool
may_be_null needs.Optional = true
may_be_null needs.OptionalList = true
may_be_null _ = false

-- one value is read, or a list of them
abbrev pub is_read_by : {X : Type 0} → (Data → Option X) → Bool → Data → Bool
is_read_by read many d = if many then is_some (list_of read d) else is_some (read d)

-- a value of this form is read, or a list of them
abbrev pub is_read_as : Form → Bool → Data → Bool
is_read_as forms.Number = is_read_by number_of
is_read_as forms.Flag = is_read_by flag_of
is_read_as forms.Text = is_read_by text_of
is_read_as forms.Span = is_read_by span_of
is_read_as forms.Place = is_read_by place_of
is_read_as forms.Spread = is_read_by spread_of
is_read_as forms.Param = is_read_by param_of
is_read_as forms.Argument = is_read_by argument_of
is_read_as forms.InstructionKind = is_read_by kind_of
is_read_as forms.LValue = is_read_by lvalue_of
is_read_as forms.PropertyLiteral = is_read_by property_literal_of
is_read_as forms.PropertyKey = is_read_by property_key_of
is_read_as forms.ObjectProperty = is_read_by object_property_of
is_read_as forms.Property = is_read_by property_of
is_read_as forms.PatternElement = is_read_by pattern_element_of
is_read_as forms.Element = is_read_by element_of
is_read_as forms.Pattern = is_read_by pattern_of
is_read_as forms.LValuePattern = is_read_by lvalue_pattern_of
is_read_as forms.PrimitiveValue = is_read_by primitive_value_of
is_read_as forms.Binding = is_read_by binding_of
is_read_as forms.JsxTag = is_read_by jsx_tag_of
is_read_as forms.JsxAttribute = is_read_by jsx_attribute_of
is_read_as forms.LoweredFunction = is_read_by lowered_function_of
is_read_as forms.InstructionValue = is_read_by instruction_value_of
is_read_as forms.LogicalOperator = is_read_by logical_operator_of
is_read_as forms.GotoVariant = is_read_by goto_variant_of
is_read_as forms.Case = is_read_by case_of
is_read_as forms.Terminal = is_read_by terminal_of
is_read_as forms.Instruction = is_read_by instruction_of
is_read_as forms.Block = is_read_by block_of
is_read_as forms.Blocks = is_read_by blocks_of
is_read_as forms.Graph = is_read_by hir_of
is_read_as forms.Function = is_read_by function_of
is_read_as forms.IdentifierName = is_read_by identifier_name_of
is_read_as forms.Identifier = is_read_by identifier_of
is_read_as forms.Shape = is_read_by shape_of
is_read_as forms.Type = is_read_by type_of
is_read_as forms.ShapeRow = is_read_by shape_row_of
is_read_as forms.Range = is_read_by range_of
is_read_as forms.PathEntry = is_read_by path_entry_of
is_read_as forms.Dependency = is_read_by dependency_of
is_read_as forms.Declaration = is_read_by declaration_of
is_read_as forms.DeclarationEntry = is_read_by declaration_entry_of
is_read_as forms.EarlyReturn = is_read_by early_return_of
is_read_as forms.Scope = is_read_by scope_of
is_read_as forms.Config = is_read_by config_of
is_read_as forms.Environment = is_read_by environment_of
is_read_as forms.Document = is_read_by doc_of

-- the value is read as it is asked
abbrev pub is_read : Asked → Data → Bool
is_read asked d = is_read_as asked.form asked.is_list d
