-- What each form of value brings, and the steps in which its parts are added.
use Rattle.std.proofs.Common.{◌≡◌, ◌∙◌, Bool, List, [], ◌∷◌, ◌++◌, IfSome, None, Option, Some, ap, append_assoc, map, refl}
use Rattle.std.proofs.Common.{subst, sym}
use Rattle.std.specs.List.{flat_map}
use Rattle.rc_hir.specs.Model.{Environment, InstructionValue, LogicalOperator, Place}
use Rattle.rc_names.specs.Numbers.{EvaluationOrder, FunctionId}
use Rattle.rc_tree.specs.Model.{ReactiveInstruction}
use Rattle.rc_tree.specs.declared.value.ReactiveValue.{ReactiveValue, map-ReactiveValue, roll-ReactiveValue}
use Rattle.rc_tree.specs.declared.value.ReactiveValue.TheFolds.{para-roll-ReactiveInstruction, para-roll-ReactiveValue}
use Rattle.rc_tree.specs.declared.value.ReactiveValue.TheOpen as value
use Rattle.rc_tree.specs.declared.value.ReactiveValue.TheVariants as reactive_values
use Rattle.rc_memo.proofs.TellsLemmas.{tells_joined, tells_nothing, tells_same}
use Rattle.rc_memo.specs.RowEvents.{ValueParts, both_parts, own_events, parts_of, recorded_operands}
use Rattle.rc_tree.specs.CollectedValues.{instruction_of}
use Rattle.rc_memo.specs.RowEvents.{row_event, row_events, row_step, value_step}
use Rattle.rc_memo.specs.declared.event.MemoEvent.{MemoEvent}
use Rattle.rc_memo.specs.declared.recording.Recording.{Recording}
use Rattle.rc_memo.specs.declared.table.LevelGiven.{LevelGiven}
use Rattle.rc_memo.specs.inside.Recording.{AddsPlaces, AddsRows, AddsWalked, Tells, context_of}

module _ (env : Environment) where
  -- a value brings the step of its form
  opened : (x : value.ReactiveValue-F ReactiveValue ReactiveInstruction)
      → parts_of env (roll-ReactiveValue x)
      ≡ value_step env (map-ReactiveValue ReactiveValue ReactiveInstruction (ReactiveValue × ValueParts)
      (ReactiveInstruction × List MemoEvent) (λ y. (y, parts_of env y)) (λ y. (y, row_events env y)) x)
  unfolding parts_of row_events
  opened x = para-roll-ReactiveValue ValueParts (List MemoEvent) (value_step env) (row_step env) x

  pub parts-Instruction : (x : InstructionValue) → parts_of env (reactive_values.Instruction x)
      ≡ record { places = recorded_operands env x; rows = []; walked = [] }
  parts-Instruction x = ap (parts_of env) (sym (reactive_values.rolls-Instruction x)) ∙ opened (value.Instruction x)

  pub parts-Logical : (operator : LogicalOperator) (x y : ReactiveValue)
      → parts_of env (reactive_values.LogicalExpression operator x y) ≡ both_parts (parts_of env x) (parts_of env y)
  parts-Logical operator x y = ap (parts_of env) (sym (reactive_values.rolls-LogicalExpression operator x y))
      ∙ opened (value.LogicalExpression operator x y)

  pub parts-Conditional : (test x y : ReactiveValue)
      → parts_of env (reactive_values.ConditionalExpression test x y)
      ≡ record (both_parts (parts_of env x) (parts_of env y))
      { walked = (parts_of env test).walked ++ ((parts_of env x).walked ++ (parts_of env y).walked) }
  parts-Conditional test x y = ap (parts_of env) (sym (reactive_values.rolls-ConditionalExpression test x y))
      ∙ opened (value.ConditionalExpression test x y)

  flat-map : (rows : List ReactiveInstruction)
      → flat_map (λ (row : ReactiveInstruction × List MemoEvent). row.1) (map (λ y. (y, row_events env y)) rows)
      ≡ flat_map (row_events env) rows
  flat-map [] = refl
  flat-map (row ∷ rows) = ap (λ w. row_events env row ++ w) (flat-map rows)

  pub parts-Sequence : (rows : List ReactiveInstruction) (id : EvaluationOrder) (x : ReactiveValue)
      → parts_of env (reactive_values.SequenceExpression rows id x) ≡ record {
        places = (parts_of env x).places;
        rows = flat_map (row_events env) rows ++ (parts_of env x).rows;
        walked = flat_map (row_events env) rows ++ (parts_of env x).walked;
      }
  parts-Sequence rows id x = ap (parts_of env) (sym (reactive_values.rolls-SequenceExpression rows id x))
      ∙ opened (value.SequenceExpression rows id x)
      ∙ ap (λ before. record {
        places = (parts_of env x).places;
        rows = before ++ (parts_of env x).rows;
        walked = before ++ (parts_of env x).walked;
      }) (flat-map rows)

  pub parts-Optional : (x : ReactiveValue) (optional : Bool)
      → parts_of env (reactive_values.OptionalExpression x optional) ≡ parts_of env x
  parts-Optional x optional = ap (parts_of env) (sym (reactive_values.rolls-OptionalExpression x optional))
      ∙ opened (value.OptionalExpression x optional)

  row_events-parts : (x : ReactiveInstruction) → row_events env x
      ≡ (parts_of env x.value).rows
      ++ own_events env x.id x.lvalue (instruction_of x.value) (parts_of env x.value).places
  unfolding parts_of row_events
  row_events-parts x = para-roll-ReactiveInstruction ValueParts (List MemoEvent) (value_step env) (row_step env)
      (record { id = x.id; lvalue = x.lvalue; value = x.value; span = x.span })

  -- what is added in two steps
  joined : {X : Type 0} (old mid new a b whole : List X) → mid ≡ old ++ a → new ≡ mid ++ b → whole ≡ a ++ b
      → new ≡ old ++ whole
  joined old mid new a b whole first second is =
      second ∙ ap (λ w. w ++ b) first ∙ append_assoc old a b ∙ ap (λ w. old ++ w) (sym is)

  pub as_inside : {x y : ReactiveValue} {old new : Recording} → x ≡ y → AddsRows env x old new
      → AddsRows env y old new
  as_inside {old = old} {new = new} is added = subst (λ w. AddsRows env w old new) is added

  pub as_places : {x y : ReactiveValue} {old new : List Place} → x ≡ y → AddsPlaces env x old new
      → AddsPlaces env y old new
  as_places {old = old} {new = new} is added = subst (λ w. AddsPlaces env w old new) is added

  pub as_walked : {x y : ReactiveValue} {old new : Recording} → x ≡ y → AddsWalked env x old new
      → AddsWalked env y old new
  as_walked {old = old} {new = new} is added = subst (λ w. AddsWalked env w old new) is added

  -- the rows inside each form

  pub inside-Instruction : (value' : ReactiveValue) (x : InstructionValue) (recording : Recording)
      → value' ≡ reactive_values.Instruction x → AddsRows env value' recording recording
  inside-Instruction value' x recording is = record {
    events = tells_same env [] _ recording recording (ap (λ w. w.rows) (ap (parts_of env) is ∙ parts-Instruction x))
        (tells_nothing env recording);
  }

  pub inside-Logical : (value' : ReactiveValue) (operator : LogicalOperator) (x y : ReactiveValue)
      (old mid new : Recording) → value' ≡ reactive_values.LogicalExpression operator x y
      → AddsRows env x old mid → AddsRows env y mid new → AddsRows env value' old new
  inside-Logical value' operator x y old mid new is first second = record {
    events = tells_joined env old mid new _ _ _
        (ap (λ w. w.rows) (ap (parts_of env) is ∙ parts-Logical operator x y))
        first.events second.events;
  }

  pub inside-Conditional : (value' test x y : ReactiveValue) (old mid new : Recording)
      → value' ≡ reactive_values.ConditionalExpression test x y → AddsRows env x old mid → AddsRows env y mid new
      → AddsRows env value' old new
  inside-Conditional value' test x y old mid new is first second = record {
    events = tells_joined env old mid new _ _ _
        (ap (λ w. w.rows) (ap (parts_of env) is ∙ parts-Conditional test x y))
        first.events second.events;
  }

  pub inside-Sequence : (value' : ReactiveValue) (rows : List ReactiveInstruction) (id : EvaluationOrder)
      (x : ReactiveValue) (old mid new : Recording)
      → value' ≡ reactive_values.SequenceExpression rows id x → Tells env (flat_map (row_events env) rows) old mid
      → AddsRows env x mid new → AddsRows env value' old new
  inside-Sequence value' rows id x old mid new is first second = record {
    events = tells_joined env old mid new _ _ _
        (ap (λ w. w.rows) (ap (parts_of env) is ∙ parts-Sequence rows id x)) first second.events;
  }

  pub inside-Optional : (value' x : ReactiveValue) (optional : Bool) (old new : Recording)
      → value' ≡ reactive_values.OptionalExpression x optional → AddsRows env x old new
      → AddsRows env value' old new
  inside-Optional value' x optional old new is added = record {
    events = tells_same env _ _ old new (ap (λ w. w.rows) (ap (parts_of env) is ∙ parts-Optional x optional))
        added.events;
  }

  -- the operands of each form

  pub places-Instruction : (value' : ReactiveValue) (x : InstructionValue) (old new : List Place)
      → value' ≡ reactive_values.Instruction x → new ≡ old ++ recorded_operands env x
      → AddsPlaces env value' old new
  places-Instruction value' x old new is added = record {
    places = added ∙ ap (λ w. old ++ w.places) (sym (ap (parts_of env) is ∙ parts-Instruction x));
  }

  pub places-Logical : (value' : ReactiveValue) (operator : LogicalOperator) (x y : ReactiveValue)
      (old mid new : List Place) → value' ≡ reactive_values.LogicalExpression operator x y
      → AddsPlaces env x old mid → AddsPlaces env y mid new → AddsPlaces env value' old new
  places-Logical value' operator x y old mid new is first second = record {
    places = joined old mid new _ _ _ first.places second.places
        (ap (λ w. w.places) (ap (parts_of env) is ∙ parts-Logical operator x y));
  }

  pub places-Conditional : (value' test x y : ReactiveValue) (old mid new : List Place)
      → value' ≡ reactive_values.ConditionalExpression test x y → AddsPlaces env x old mid
      → AddsPlaces env y mid new → AddsPlaces env value' old new
  places-Conditional value' test x y old mid new is first second = record {
    places = joined old mid new _ _ _ first.places second.places
        (ap (λ w. w.places) (ap (parts_of env) is ∙ parts-Conditional test x y));
  }

  pub places-Sequence : (value' : ReactiveValue) (rows : List ReactiveInstruction) (order : EvaluationOrder)
      (x : ReactiveValue) (old new : List Place) → value' ≡ reactive_values.SequenceExpression rows order x
      → AddsPlaces env x old new → AddsPlaces env value' old new
  places-Sequence value' rows order x old new is added = record {
    places = added.places ∙ ap (λ w. old ++ w.places) (sym (ap (parts_of env) is ∙ parts-Sequence rows order x));
  }

  pub places-Optional : (value' x : ReactiveValue) (optional : Bool) (old new : List Place)
      → value' ≡ reactive_values.OptionalExpression x optional → AddsPlaces env x old new
      → AddsPlaces env value' old new
  places-Optional value' x optional old new is added = record {
    places = added.places ∙ ap (λ w. old ++ w.places) (sym (ap (parts_of env) is ∙ parts-Optional x optional));
  }

  pub adds_row : (x : ReactiveInstruction) (old mid new : Recording) → AddsRows env x.value old mid
      → Tells env (own_events env x.id x.lvalue (instruction_of x.value) (parts_of env x.value).places) mid new
      → Tells env (row_events env x) old new
  adds_row x old mid new first second = tells_joined env old mid new (parts_of env x.value).rows _ (row_events env x)
      (row_events-parts x) first.events second

  -- a row with other operands and levels that are the same
  pub row_told : (id : EvaluationOrder) {operands places : List Place} {levels given : List LevelGiven}
      (old new : Recording) → operands ≡ places → levels ≡ given
      → Tells env (row_event env id operands levels ∷ []) old new → Tells env (row_event env id places given ∷ []) old new
  row_told id {places = places} {levels = levels} old new are is told =
      subst (λ w. Tells env (row_event env id places w ∷ []) old new) is
      (subst (λ w. Tells env (row_event env id w levels ∷ []) old new) are told)

  pub context_is : (function : Option FunctionId) (operands places : List Place) → places ≡ operands
      → IfSome function (λ named. operands ≡ context_of env named)
      → IfSome function (λ named. places ≡ context_of env named)
  context_is None operands places are h = h
  context_is (Some function) operands places are h = are ∙ h

  -- the same in a terminal

  pub walks-Instruction : (value' : ReactiveValue) (x : InstructionValue) (recording : Recording)
      → value' ≡ reactive_values.Instruction x → AddsWalked env value' recording recording
  walks-Instruction value' x recording is = record {
    events = tells_same env [] _ recording recording (ap (λ w. w.walked) (ap (parts_of env) is ∙ parts-Instruction x))
        (tells_nothing env recording);
  }

  pub walks-Logical : (value' : ReactiveValue) (operator : LogicalOperator) (x y : ReactiveValue)
      (old mid new : Recording) → value' ≡ reactive_values.LogicalExpression operator x y
      → AddsWalked env x old mid → AddsWalked env y mid new → AddsWalked env value' old new
  walks-Logical value' operator x y old mid new is first second = record {
    events = tells_joined env old mid new _ _ _
        (ap (λ w. w.walked) (ap (parts_of env) is ∙ parts-Logical operator x y))
        first.events second.events;
  }

  pub walks-Conditional : (value' test x y : ReactiveValue) (old one two new : Recording)
      → value' ≡ reactive_values.ConditionalExpression test x y → AddsWalked env test old one
      → AddsWalked env x one two → AddsWalked env y two new → AddsWalked env value' old new
  walks-Conditional value' test x y old one two new is first second third = record {
    events = tells_joined env old one new _ _ _
        (ap (λ w. w.walked) (ap (parts_of env) is ∙ parts-Conditional test x y)) first.events
        (tells_joined env one two new _ _ _ refl second.events third.events);
  }

  pub walks-Sequence : (value' : ReactiveValue) (rows : List ReactiveInstruction) (id : EvaluationOrder)
      (x : ReactiveValue) (old mid new : Recording)
      → value' ≡ reactive_values.SequenceExpression rows id x → Tells env (flat_map (row_events env) rows) old mid
      → AddsWalked env x mid new → AddsWalked env value' old new
  walks-Sequence value' rows id x old mid new is first second = record {
    events = tells_joined env old mid new _ _ _
        (ap (λ w. w.walked) (ap (parts_of env) is ∙ parts-Sequence rows id x)) first second.events;
  }

  pub walks-Optional : (value' x : ReactiveValue) (optional : Bool) (old new : Recording)
      → value' ≡ reactive_values.OptionalExpression x optional → AddsWalked env x old new
      → AddsWalked env value' old new
  walks-Optional value' x optional old new is added = record {
    events = tells_same env _ _ old new (ap (λ w. w.walked) (ap (parts_of env) is ∙ parts-Optional x optional))
        added.events;
  }

pub ruleset quiet_values = walks-Instruction
