-- Values that run alike in two environments: those whose numbers index entries that both environments share.
use Rattle.std.proofs.Common.{◌≡◌, ◌<◌, ℕ, Bool, true, false, List, [], ◌++◌, Option, None, Some, map, refl, ap, subst}
use Rattle.std.proofs.Common.{slice_get}
use Rattle.std.specs.Prelude.{All}
use Rattle.std.proofs.lemmas.List.Elements.{All-head}
use Rattle.rc_names.specs.Numbers.{EvaluationOrder}
use Rattle.rc_names.specs.declared.span.Span.{Span}
use Rattle.rc_hir.specs.Names.{IsInTable}
use Rattle.rc_hir.specs.PartNames.{Name, names_if, place_names, scope_name, target_names}
use Rattle.rc_hir.specs.ValueNames.{value_names}
use Rattle.rc_hir.specs.Model.{Environment, InstructionValue, Lengths, Place}
use Rattle.rc_hir.specs.declared.instruction.InstructionValue.TheVariants as kinds
use Rattle.rc_tree.specs.CollectedValues.{collected_row, collected_value}
use Rattle.rc_tree.specs.Joining.{all_of, lists}
use Rattle.rc_tree.specs.TreeNames.{names_of_parts, names_of_values}
use Rattle.rc_tree.proofs.CollectedLemmas.{collected-row, collected-Base, collected-Logical, collected-Conditional}
use Rattle.rc_tree.proofs.CollectedLemmas.{collected-Sequence, collected-Optional}
use Rattle.rc_runs.specs.AnsweredTest.{answers_test, declared_alike}
use Rattle.rc_runs.specs.PlainTree.{Value, Base, Logical, Conditional, Sequence, Optional, Rows, NoRows, Row}
use Rattle.rc_runs.specs.Silent.{is_silent_value, lacks_name}
use Rattle.rc_runs.specs.TreeOf.{instructions_of, value_of}
use Rattle.rc_runs.specs.ValueRun.{is_row_of_test}
use Rattle.rc_runs.proofs.AllLemmas.{All-left, All-right}
use Rattle.rc_early.proofs.KeptRuns.HeldParts.{Gives}
use Rattle.rc_early.proofs.KeptRuns.PlainParts.{Asked}

module _ (first second : Environment) where
  -- the row is the last one of an optional's test in both environments or in neither
  abbrev pub RowAlike : Option Place → Value → Rows → Value → Type 0
  RowAlike target own rest value = (is_test : Bool)
      → is_row_of_test second is_test target own rest value ≡ is_row_of_test first is_test target own rest value

  -- each part is silent in both environments or in neither, and each row alike
  abbrev mutual
    pub ValueAlike : Value → Type 0
    ValueAlike (Base value) = is_silent_value second value ≡ is_silent_value first value
    ValueAlike (Logical operator left right) = ValueAlike left × ValueAlike right
    ValueAlike (Conditional test consequent alternate) = ValueAlike test × ValueAlike consequent × ValueAlike alternate
    ValueAlike (Sequence rows id value) = RowsAlike rows value × ValueAlike value
    ValueAlike (Optional value optional) = ValueAlike value

    pub RowsAlike : Rows → Value → Type 0
    RowsAlike NoRows value = Unit {0}
    RowsAlike (Row id target own span rest) value =
        ValueAlike own × RowAlike target own rest value × RowsAlike rest value

  -- what is asked of a tree whose values run alike
  abbrev pub alike_values : Asked
  alike_values = record { Row = λ target value. ValueAlike value; OfValue = ValueAlike; Jump = λ target. Unit {0} }

  module _ (tables : Lengths)
      (same : (n : ℕ) → n < tables.identifiers → slice_get second.identifiers n ≡ slice_get first.identifiers n) where
    abbrev Known : List Name → Type 0
    Known = All (IsInTable tables)

    same_identifier : (place : Place) → Known (place_names place)
        → slice_get second.identifiers place.identifier.0 ≡ slice_get first.identifiers place.identifier.0
    same_identifier place known = same place.identifier.0 (All-head (IsInTable tables) _ [] known)

    left : (xs ys : List Name) → Known (xs ++ ys) → Known xs
    left = All-left (IsInTable tables)

    right : (xs ys : List Name) → Known (xs ++ ys) → Known ys
    right = All-right (IsInTable tables)

    -- the numbers of a value at an id
    abbrev KnownValue : Value → EvaluationOrder → Type 0
    KnownValue value id = Known (collected_value names_of_values (value_of value) id)

    of_base : (value : InstructionValue) (id : EvaluationOrder) → KnownValue (Base value) id
        → Known (value_names value)
    of_base value id known = subst Known (collected-Base names_of_values value id) known

    silent_alike : (value : InstructionValue) → Known (value_names value)
        → is_silent_value second value ≡ is_silent_value first value
    unfolding is_silent_value
    silent_alike (kinds.StoreLocal lvalue value span) known =
        ap lacks_name (same_identifier lvalue.place (left (target_names lvalue) (place_names value) known))
    silent_alike value known = refl

    answers_alike : (place : Place) (value : Value) (id : EvaluationOrder) → Known (place_names place)
        → KnownValue value id → answers_test second place value ≡ answers_test first place value
    answers_alike place (Base (kinds.LoadLocal loaded span)) id known known' = λ i.
        declared_alike (same_identifier place known i)
        (same_identifier loaded (of_base (kinds.LoadLocal loaded span) id known') i)
    answers_alike place (Base value) id known known' = refl
    answers_alike place value id known known' = refl

    row_alike : (target : Option Place) (own : Value) (rest : Rows) (value : Value) (id : EvaluationOrder)
        → Known (names_if place_names target) → KnownValue value id → RowAlike target own rest value
    row_alike target own rest value id known known' false = refl
    row_alike (Some place) (Optional own optional) NoRows value id known known' true =
        answers_alike place value id known known'
    row_alike (Some place) (Optional own optional) (Row at target other span rest) value id known known' true = refl
    row_alike None own rest value id known known' true = refl
    row_alike (Some place) own rest value id known known' true = refl

    abbrev KnownRows : Rows → Type 0
    KnownRows rows = Known (all_of lists (map (collected_row names_of_values) (instructions_of rows)))

    -- the target and the value of a row
    of_row : (id : EvaluationOrder) (target : Option Place) (own : Value) (span : Option Span)
        → Known (collected_row names_of_values
        (record { id = id; lvalue = target; value = value_of own; span = span }))
        → Known (names_if place_names target ++ collected_value names_of_values (value_of own) id)
    of_row id target own span known = subst Known (collected-row names_of_values _) known

    mutual
      value_alike : (value : Value) (id : EvaluationOrder) → KnownValue value id → ValueAlike value
      value_alike (Base value) id known = silent_alike value (of_base value id known)
      value_alike (Logical operator a b) id known =
          let parts = subst Known (collected-Logical names_of_values operator (value_of a) (value_of b) id) known in
          (value_alike a id (left _ _ parts), value_alike b id (right _ _ parts))
      value_alike (Conditional a b c) id known =
          let parts = subst Known
          (collected-Conditional names_of_values (value_of a) (value_of b) (value_of c) id) known in
          let more = right _ _ parts in
          (value_alike a id (left _ _ parts), value_alike b id (left _ _ more), value_alike c id (right _ _ more))
      value_alike (Sequence rows own value) id known =
          let parts = subst Known
          (collected-Sequence names_of_values (instructions_of rows) own (value_of value) id) known in
          (rows_alike rows value own (left _ _ parts) (right _ _ parts), value_alike value own (right _ _ parts))
      value_alike (Optional value optional) id known =
          value_alike value id (subst Known (collected-Optional names_of_values (value_of value) optional id) known)

      rows_alike : (rows : Rows) (value : Value) (id : EvaluationOrder) → KnownRows rows → KnownValue value id
          → RowsAlike rows value
      rows_alike NoRows value id known known' = tt
      rows_alike (Row at target own span rest) value id known known' =
          let parts = of_row at target own span (left _ _ known) in (
            value_alike own at (right _ _ parts),
            row_alike target own rest value id (left _ _ parts) known',
            rows_alike rest value id (right _ _ known) known',
          )

    -- all values of a tree whose numbers are in the tables run alike
    pub names_give : Gives names_of_parts Known alike_values
    names_give = record {
      left = left;
      right = right;
      row = λ id target value span known. value_alike value id (right _ _ (of_row id target value span known));
      value = λ id value known. value_alike value id known;
      jump = λ target known. tt;
      scope = λ scope inside known. right (scope_name scope) inside known;
      pruned_scope = λ scope inside known. right (scope_name scope) inside known;
    }
