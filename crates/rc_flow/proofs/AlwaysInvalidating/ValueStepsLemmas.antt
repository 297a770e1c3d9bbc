-- How the steps of the statements are added in turn.
use Rattle.std.proofs.Common.{◌≡◌, ◌∙◌, ◌+◌, ◌<◌, ℕ, Bool, List, ◌∷◌, ◌++◌, Option, length, drop, get_or, append_assoc}
use Rattle.std.proofs.Common.{sym, ap}
use Rattle.std.proofs.lemmas.List.{append-nil, drop_more}
use Rattle.rc_names.specs.Numbers.{EvaluationOrder}
use Rattle.rc_tree.proofs.CollectedLemmas.{collected-case, collected-DoWhile, collected-For, collected_forms}
use Rattle.rc_tree.specs.Collected.{collected, collected_case, collected_cases, collected_if, collected_terminal}
use Rattle.rc_tree.specs.declared.statement.ReactiveStatement.TheViews.{out-ReactiveSwitchCase}
use Rattle.rc_tree.specs.declared.statement.ReactiveStatement.TheViews.{roll-out-ReactiveSwitchCase}
use Rattle.rc_tree.specs.declared.terminal.ReactiveTerminal.TheVariants as tree
use Rattle.rc_tree.specs.Model.{ReactiveBlock, ReactiveSwitchCase, ReactiveTerminal, ReactiveValue}
use Rattle.rc_flow.specs.ValueSteps.{value_step_parts}
use Rattle.rc_flow.specs.declared.value_step.ValueStep.{ValueStep}

-- what is added for the form of a terminal is added for it
pub added_form : {terminal form : ReactiveTerminal} {new steps : List ValueStep} (in_scope : Bool)
    (old : List ValueStep) → terminal ≡ form → collected_terminal value_step_parts form in_scope ≡ steps
    → new ≡ old ++ steps → new ≡ old ++ collected_terminal value_step_parts terminal in_scope
added_form in_scope old is form added = added ∙ ap (λ steps. old ++ steps)
    (sym (ap (λ x. collected_terminal value_step_parts x in_scope) is ∙ form))

-- the values of a loop have no steps
pub steps-DoWhile : (body : ReactiveBlock) (test : ReactiveValue) (id : EvaluationOrder) (in_scope : Bool)
    → collected_terminal value_step_parts (tree.DoWhile body test id) in_scope
    ≡ collected value_step_parts body in_scope
steps-DoWhile body test id in_scope = ap (λ steps. steps in_scope) (collected-DoWhile value_step_parts body test id)
    ∙ append-nil (collected value_step_parts body in_scope)

pub steps-For : (init test : ReactiveValue) (update : Option ReactiveValue) (body : ReactiveBlock)
    (id : EvaluationOrder) (in_scope : Bool)
    → collected_terminal value_step_parts (tree.For init test update body id) in_scope
    ≡ collected value_step_parts body in_scope
steps-For init test update body id in_scope =
    ap (λ steps. steps in_scope) (collected-For value_step_parts init test update body id)
    ∙ append-nil (collected value_step_parts body in_scope)

-- the steps of the next case are added
pub added_case : (in_scope : Bool) (found new all : List ValueStep) (cases : List ReactiveSwitchCase) (place : ℕ)
    (case : ReactiveSwitchCase) (id : EvaluationOrder) → place < length cases → case ≡ get_or cases place case
    → new ≡ found ++ collected_if value_step_parts (out-ReactiveSwitchCase case).block in_scope
    → found ++ collected_cases value_step_parts id (drop place cases) in_scope ≡ all
    → new ++ collected_cases value_step_parts id (drop (place + 1) cases) in_scope ≡ all
added_case in_scope found new all cases place case id below at here so_far =
    let inner = collected_if value_step_parts (out-ReactiveSwitchCase case).block in
    let rest = collected_cases value_step_parts id (drop (place + 1) cases) in
    let next : drop place cases ≡ case ∷ drop (place + 1) cases =
    drop_more cases place case below ∙ ap (λ x. x ∷ drop (place + 1) cases) (sym at)
    in
    let held : collected_case value_step_parts case id ≡ inner =
    ap (λ x. collected_case value_step_parts x id) (sym (roll-out-ReactiveSwitchCase case))
    ∙ collected-case value_step_parts (out-ReactiveSwitchCase case).test (out-ReactiveSwitchCase case).block id
    in
    let whole : collected_cases value_step_parts id (drop place cases) ≡ value_step_parts.joining.both inner rest =
    ap (collected_cases value_step_parts id) next ∙ ap (λ it. value_step_parts.joining.both it rest) held
    in
    ap (λ steps. steps ++ rest in_scope) here ∙ append_assoc found (inner in_scope) (rest in_scope)
    ∙ ap (λ steps. found ++ steps) (sym (ap (λ steps. steps in_scope) whole)) ∙ so_far

-- with these `search` follows the steps through the forms of a tree
pub ruleset holding = (collected_forms, append-nil)
