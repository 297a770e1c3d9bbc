-- The memo table: what each kind of instruction asks of its places.
--
-- Each kind belongs to a line. A line gives levels to the row's target, where there is one, and to places of the
-- instruction, and it says which operands are recorded.
use Rattle.std.specs.Prelude.{Bool, ◌||◌, List, [], ◌∷◌, ◌++◌, Option, None, Some, if◌then◌else◌}
use Rattle.std.specs.List.{flat_map}
use Rattle.rc_hir.specs.Environment.{has_no_alias_signature}
use Rattle.rc_hir.specs.Model.{ArrayPatternElement, Environment, InstructionValue, ObjectPropertyOrSpread, Pattern, Place}
use Rattle.rc_hir.specs.Types.{is_mutable}
use Rattle.rc_hir.specs.declared.environment.Config.{Config}
use Rattle.rc_hir.specs.declared.instruction.InstructionValue.TheVariants as kind
use Rattle.rc_hir.specs.declared.pattern.ArrayPatternElement.TheVariants as item
use Rattle.rc_hir.specs.declared.pattern.ObjectPropertyOrSpread.TheVariants as entry
use Rattle.rc_hir.specs.declared.pattern.Pattern.TheVariants as patterns
use Rattle.rc_memo.specs.declared.level.MemoizationLevel.{MemoizationLevel}
use Rattle.rc_memo.specs.declared.level.MemoizationLevel.TheVariants.{Memoized, Conditional, Unmemoized, Never}
use Rattle.rc_memo.specs.declared.table.LevelGiven.{LevelGiven}
use Rattle.rc_memo.specs.declared.table.MemoRule.{MemoRule}
use Rattle.rc_memo.specs.declared.table.MemoRule.TheVariants as line

-- the line of the memo table that the kind belongs to
abbrev pub memo_rule : InstructionValue → MemoRule
memo_rule (kind.JsxExpression tag props children span) = line.Element
memo_rule (kind.JsxFragment children span) = line.Element
memo_rule (kind.NextPropertyOf value span) = line.Cheap
memo_rule (kind.StartMemoize manual_memo_id deps span) = line.Cheap
memo_rule (kind.FinishMemoize manual_memo_id decl pruned span) = line.Cheap
memo_rule (kind.Debugger span) = line.Cheap
memo_rule (kind.ComputedDelete object property span) = line.Cheap
memo_rule (kind.PropertyDelete object property span) = line.Cheap
memo_rule (kind.LoadGlobal binding span) = line.Cheap
memo_rule (kind.MetaProperty meta property span) = line.Cheap
memo_rule (kind.TemplateLiteral subexprs quasis span) = line.Cheap
memo_rule (kind.Primitive value span) = line.Cheap
memo_rule (kind.JSXText value span) = line.Cheap
memo_rule (kind.BinaryExpression operator left right span) = line.Cheap
memo_rule (kind.UnaryExpression operator value span) = line.Cheap
memo_rule (kind.Await value span) = line.Follows
memo_rule (kind.TypeCastExpression value annotation span) = line.Follows
memo_rule (kind.IteratorNext iterator collection span) = line.Follows
memo_rule (kind.GetIterator collection span) = line.Follows
memo_rule (kind.LoadLocal place span) = line.Follows
memo_rule (kind.LoadContext place span) = line.Follows
memo_rule (kind.DeclareContext lvalue span) = line.DeclaresContext lvalue.place
memo_rule (kind.DeclareLocal lvalue span) = line.Declares lvalue.place
memo_rule (kind.PrefixUpdate lvalue operation value span) = line.Stores lvalue value
memo_rule (kind.PostfixUpdate lvalue operation value span) = line.Stores lvalue value
memo_rule (kind.StoreLocal lvalue value span) = line.Stores lvalue.place value
memo_rule (kind.StoreContext lvalue value span) = line.StoresContext lvalue.place value
memo_rule (kind.StoreGlobal name value span) = line.StoresGlobal value
memo_rule (kind.Destructure lvalue value span) = line.Destructures value
memo_rule (kind.ComputedLoad object property span) = line.Reads object
memo_rule (kind.PropertyLoad object property span) = line.Reads object
memo_rule (kind.ComputedStore object property value span) = line.Stores object value
memo_rule (kind.TaggedTemplateExpression tag quasi span) = line.Calls tag
memo_rule (kind.CallExpression callee args span) = line.Calls callee
memo_rule (kind.MethodCall receiver property args span) = line.Calls property
memo_rule (kind.RegExpLiteral pattern flags span) = line.Creates
memo_rule (kind.ArrayExpression elements span) = line.Creates
memo_rule (kind.NewExpression callee args span) = line.Creates
memo_rule (kind.ObjectExpression properties span) = line.Creates
memo_rule (kind.PropertyStore object property value span) = line.Creates
memo_rule (kind.ObjectMethod lowered_func span) = line.Creates
memo_rule (kind.FunctionExpression name lowered_func span) = line.Creates

-- a place with a level
abbrev pub gives : Place → MemoizationLevel → LevelGiven
gives place level = record { place = place; level = level }

-- the level of the row's own target, where there is one
abbrev pub own : Option Place → MemoizationLevel → List LevelGiven
own None level = []
own (Some target) level = gives target level ∷ []

-- a place that the row may change is memoized
abbrev pub if_mutable : Place → List LevelGiven
if_mutable place = if is_mutable place.effect then gives place Memoized ∷ [] else []

-- the places of a pattern: a spread is memoized, since it makes a new value
abbrev pub item_levels : ArrayPatternElement → List LevelGiven
item_levels (item.Place place) = gives place Conditional ∷ []
item_levels (item.Spread spread) = gives spread.place Memoized ∷ []
item_levels item.Hole = []

abbrev pub entry_levels : ObjectPropertyOrSpread → List LevelGiven
entry_levels (entry.Property property) = gives property.place Conditional ∷ []
entry_levels (entry.Spread spread) = gives spread.place Memoized ∷ []

abbrev pub pattern_levels : Pattern → List LevelGiven
pattern_levels (patterns.Array items) = flat_map item_levels items
pattern_levels (patterns.Object properties) = flat_map entry_levels properties

-- the places that an instruction's pattern writes
abbrev pub written_levels : InstructionValue → List LevelGiven
written_levels (kind.Destructure lvalue value span) = pattern_levels lvalue.pattern
written_levels _ = []

-- cheap values are memoized too where the options ask it
abbrev pub memoizes_cheap : Config → Bool
memoizes_cheap config = config.enable_forest || config.enable_preserve_existing_memoization_guarantees

module _ (env : Environment) where
  -- the levels that a line gives, from the row's target, the instruction's operands and the places that it writes
  unfoldable pub levels_of : MemoRule → Option Place → List Place → List LevelGiven → List LevelGiven
  levels_of line.Element target operands written =
      own target (if env.config.enable_forest then Unmemoized else Memoized)
  levels_of line.Cheap target operands written =
      own target (if memoizes_cheap env.config then Conditional else Never)
  levels_of line.Follows target operands written = own target Conditional
  levels_of (line.DeclaresContext lvalue) target operands written = gives lvalue Memoized ∷ own target Unmemoized
  levels_of (line.Declares lvalue) target operands written = gives lvalue Unmemoized ∷ own target Unmemoized
  levels_of (line.Stores lvalue value) target operands written = gives lvalue Conditional ∷ own target Conditional
  levels_of (line.StoresContext lvalue value) target operands written =
      gives lvalue Memoized ∷ own target Conditional
  levels_of (line.StoresGlobal value) target operands written = own target Unmemoized
  levels_of (line.Destructures value) target operands written = own target Conditional ++ written
  levels_of (line.Reads object) target operands written = own target Conditional
  levels_of (line.Calls callee) target operands written =
      own target Memoized ++ (if has_no_alias_signature env callee.identifier then [] else flat_map if_mutable operands)
  levels_of line.Creates target operands written = flat_map if_mutable operands ++ own target Memoized

  -- the operands that a line records
  unfoldable pub recorded_of : MemoRule → List Place → List Place
  recorded_of line.Element operands = operands
  recorded_of line.Cheap operands = if memoizes_cheap env.config then operands else []
  recorded_of line.Follows operands = operands
  recorded_of (line.DeclaresContext lvalue) operands = []
  recorded_of (line.Declares lvalue) operands = []
  recorded_of (line.Stores lvalue value) operands = value ∷ []
  recorded_of (line.StoresContext lvalue value) operands = value ∷ []
  recorded_of (line.StoresGlobal value) operands = value ∷ []
  recorded_of (line.Destructures value) operands = value ∷ []
  recorded_of (line.Reads object) operands = object ∷ []
  recorded_of (line.Calls callee) operands = if has_no_alias_signature env callee.identifier then [] else operands
  recorded_of line.Creates operands = operands
