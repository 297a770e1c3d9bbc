-- What the rows of a tree tell, by the memo table.
--
-- A row tells of its own value. Where that is an expression over other values, the rows of the sequences inside come
-- first, one by one, and the row has the operands of the values that it may be. A number outside the table of functions
-- names a function without operands.
use Rattle.std.specs.Prelude.{Bool, ◌&&◌, not, List, [], ◌∷◌, ◌++◌, Option, None, Some, map, if◌then◌else◌}
use Rattle.std.specs.List.{flat_map}
use Rattle.std.specs.Result.{result_unwrap_or}
use Rattle.rc_hir.specs.Environment.{declaration_of, has_no_alias_signature, is_hook}
use Rattle.rc_hir.specs.Model.{Environment, InstructionValue, Place, PlaceOrSpread}
use Rattle.rc_hir.specs.Operands.{argument_places, operands}
use Rattle.rc_hir.specs.declared.instruction.InstructionValue.TheVariants as kind
use Rattle.rc_names.specs.Numbers.{EvaluationOrder, IdentifierId}
use Rattle.rc_tree.specs.CollectedValues.{instruction_of}
use Rattle.rc_tree.specs.Model.{ReactiveInstruction, ReactiveValue}
use Rattle.rc_tree.specs.declared.value.ReactiveValue.TheFolds.{para-ReactiveInstruction, para-ReactiveValue}
use Rattle.rc_tree.specs.declared.value.ReactiveValue.TheOpen as value
use Rattle.rc_tree.specs.declared.value.ReactiveValue.TheOpen.{ReactiveInstruction-F, ReactiveValue-F}
use Rattle.rc_memo.specs.Table.{levels_of, memo_rule, own, recorded_of, written_levels}
use Rattle.rc_memo.specs.declared.event.MemoEvent.{MemoEvent}
use Rattle.rc_memo.specs.declared.event.MemoEvent.TheVariants as events
use Rattle.rc_memo.specs.declared.level.MemoizationLevel.TheVariants.{Conditional}
use Rattle.rc_memo.specs.declared.table.LevelGiven.{LevelGiven}
use Rattle.rc_memo.specs.Mentions.{mention_of, target_of}

-- what a value brings: to a row that it is in, its operands and the events of the rows inside; and to a terminal that
-- it is in, the events of the rows inside, in which the test of a condition counts too
pub record ValueParts : Type 0 where
  pub places : List Place
  pub rows : List MemoEvent
  pub walked : List MemoEvent

-- what two values bring
abbrev pub both_parts : ValueParts → ValueParts → ValueParts
both_parts first second = record {
  places = first.places ++ second.places;
  rows = first.rows ++ second.rows;
  walked = first.walked ++ second.walked;
}

module _ (env : Environment) where
  -- all operands of an instruction
  unfoldable pub places_read : InstructionValue → List Place
  places_read instruction = result_unwrap_or (operands env.functions instruction) []

  -- the operands of an instruction that are recorded
  unfoldable pub recorded_operands : InstructionValue → List Place
  recorded_operands instruction = recorded_of env (memo_rule instruction) (places_read instruction)

  -- a row that loads a local name defines its target as that name
  unfoldable pub load_events : Option Place → InstructionValue → List MemoEvent
  load_events (Some target) (kind.LoadLocal place span) =
      events.Load (declaration_of env target.identifier) (declaration_of env place.identifier) ∷ []
  load_events _ _ = []

  -- each argument escapes
  abbrev pub argument_events : PlaceOrSpread → List MemoEvent
  argument_events argument =
      map (λ place. events.Escape (declaration_of env place.identifier)) (argument_places argument)

  -- a call of a hook may keep its arguments, unless its signature excludes it
  abbrev pub lets_escape : IdentifierId → Bool
  lets_escape callee = is_hook env callee && not (has_no_alias_signature env callee)

  -- the arguments of a call of a hook
  unfoldable pub escape_events : InstructionValue → List MemoEvent
  escape_events (kind.CallExpression callee args span) =
      if lets_escape callee.identifier then flat_map argument_events args else []
  escape_events (kind.MethodCall receiver property args span) =
      if lets_escape property.identifier then flat_map argument_events args else []
  escape_events _ = []

  -- a row with these operands and levels
  abbrev pub row_event : EvaluationOrder → List Place → List LevelGiven → MemoEvent
  row_event id places given = events.Row (map (mention_of env id) places) (map (target_of env id) given)

  -- what a row tells of itself, from the operands that are recorded of its value
  unfoldable pub own_events : EvaluationOrder → Option Place → Option InstructionValue → List Place → List MemoEvent
  own_events id target None places = row_event id places (own target Conditional) ∷ []
  own_events id target (Some instruction) places = row_event id places
      (levels_of env (memo_rule instruction) target (places_read instruction) (written_levels instruction))
      ∷ (load_events target instruction ++ escape_events instruction)

  -- what each form of value brings
  abbrev pub value_step : ReactiveValue-F (ReactiveValue × ValueParts) (ReactiveInstruction × List MemoEvent)
      → ValueParts
  value_step (value.Instruction x) = record { places = recorded_operands x; rows = []; walked = [] }
  value_step (value.LogicalExpression operator left right) = both_parts left.1 right.1
  value_step (value.ConditionalExpression test consequent alternate) = record {
    places = consequent.1.places ++ alternate.1.places;
    rows = consequent.1.rows ++ alternate.1.rows;
    walked = test.1.walked ++ (consequent.1.walked ++ alternate.1.walked);
  }
  value_step (value.SequenceExpression rows id x) = record {
    places = x.1.places;
    rows = flat_map (λ row. row.1) rows ++ x.1.rows;
    walked = flat_map (λ row. row.1) rows ++ x.1.walked;
  }
  value_step (value.OptionalExpression x optional) = x.1

  -- a row: the rows inside its value come first
  abbrev pub row_step : ReactiveInstruction-F (ReactiveValue × ValueParts) (ReactiveInstruction × List MemoEvent)
      → List MemoEvent
  row_step x = x.value.1.rows ++ own_events x.id x.lvalue (instruction_of x.value.0) x.value.1.places

  -- what a value brings, and the events of a row
  unfoldable pub parts_of : ReactiveValue → ValueParts
  parts_of = para-ReactiveValue ValueParts (List MemoEvent) value_step row_step

  unfoldable pub row_events : ReactiveInstruction → List MemoEvent
  row_events = para-ReactiveInstruction ValueParts (List MemoEvent) value_step row_step

  -- the events of the rows of an optional value of a terminal
  abbrev pub walked_events : Option ReactiveValue → List MemoEvent
  walked_events None = []
  walked_events (Some x) = (parts_of x).walked
