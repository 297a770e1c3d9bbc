-- Runs at the corners of the definitions, where no spelled tree leads.
use Rattle.std.proofs.Common.{◌≡◌, [], ◌∷◌, Option, None, Some, false, true, if◌then◌else◌, refl, ap}
use Rattle.rc_names.specs.Numbers.{BlockId, EvaluationOrder, to_id}
use Rattle.rc_names.specs.declared.span.Span.{Span}
use Rattle.rc_hir.specs.Model.{Environment, HirFunction, Place}
use Rattle.rc_hir.specs.declared.instruction.InstructionValue.TheVariants as kinds
use Rattle.rc_hir.specs.declared.pattern.InstructionKind.TheVariants.{Reassign}
use Rattle.rc_hir.specs.declared.terminal.Terminal.TheVariants as terminals
use Rattle.rc_tree.specs.Model.{ReactiveLabel}
use Rattle.rc_tree.specs.declared.kind.ReactiveTerminalTargetKind.TheVariants.{Implicit, Labeled, Unlabeled}
use Rattle.rc_runs.specs.Completion.{Normal}
use Rattle.rc_runs.specs.BodyRun.{RunsStatement, and_then, leaves_list, goes_on, nothing, break_labeled}
use Rattle.rc_runs.specs.BodyRun.{break_unlabeled, continue_implicit, continue_labeled, in_case, in_while, past_init}
use Rattle.rc_runs.specs.BodyRun.{chosen_here, leaves_case, nothing_before, past_before, test_fails, test_holds}
use Rattle.rc_runs.specs.BodyRun.{next_turn, leaves_loop, present}
use Rattle.rc_runs.specs.Event.{Arm, Chose, Did, Open}
use Rattle.rc_runs.specs.SimpleStatements.{unlabeled}
use Rattle.rc_runs.specs.GraphRun.{GraphRun, IsGraphRun, arrives, moved, then_arm}
use Rattle.rc_runs.specs.PlainTree.{Value, Base, Break, Continue, Switch, While, For, TerminalStatement, Present}
use Rattle.rc_runs.specs.PlainTree.{NoCases, Case, Return, RowStatement, Statements, Cons}
use Rattle.rc_runs.specs.Returning.{is_early_label, returning, returning_after, returning_statement, returning_terminal}
use Rattle.rc_runs.specs.Silent.{is_silent_value}
use Rattle.rc_runs.specs.ValueRun.{quiet_value, did_value}
use Rattle.rc_runs.proofs.PlainLists.{labeled}

-- a break whose own label is its target ends normally, as in `a: break a`
own_label : (env : Environment) (id : EvaluationOrder)
    → RunsStatement env (TerminalStatement (Break (to_id 5) Labeled id)
    (Some (record { id = to_id 5; implicit = false }))) [] Normal
own_label env id = break_labeled refl

-- each graph has the empty run, also if its entry is no key
nothing_yet : (hir : HirFunction) (env : Environment) → IsGraphRun hir env [] Open
nothing_yet hir env = arrives

-- an edge has its event, also if it leads to a number that is no key
into_nowhere : (hir : HirFunction) (env : Environment) (test : Place) (consequent alternate fallthrough : BlockId)
    (id : EvaluationOrder) (span : Option Span)
    → GraphRun hir env [] (terminals.If test consequent alternate fallthrough id span) (Arm true ∷ []) Open
into_nowhere hir env test consequent alternate fallthrough id span = moved then_arm arrives refl

-- a label, and the load of a place
abbrev named : BlockId → Option ReactiveLabel
named block = Some (record { id = block; implicit = false })

abbrev load : Place → Value
load place = Base (kinds.LoadLocal place place.span)

-- a labeled break in a switch leaves the loop around it, as in `a: while (x) { switch (x) { default: break a } }`
break_past_switch : (env : Environment) (place : Place) (id : EvaluationOrder)
    → RunsStatement env (TerminalStatement (While (load place)
    (unlabeled (Switch place (Case None (Present (unlabeled (Break (to_id 5) Labeled id))) NoCases) id)) id)
    (named (to_id 5))) (Arm true ∷ Chose None ∷ []) Normal
unfolding is_silent_value
break_past_switch env place id =
    let case = chosen_here (leaves_case (present (and_then (break_labeled refl) (leaves_list refl) refl)) refl) in
    let body = and_then (in_case case refl) (leaves_list refl) refl in
    in_while (test_holds (quiet_value refl) refl (leaves_loop body refl refl) refl)

-- an unlabeled break in a switch leaves the switch alone, as in `while (x) { switch (x) { default: break } }`
break_out_of_switch : (env : Environment) (place : Place) (id : EvaluationOrder)
    → RunsStatement env (TerminalStatement (Switch place (Case None (Present (unlabeled (Break (to_id 5) Unlabeled id)))
    NoCases) id) None) (Chose None ∷ []) Normal
break_out_of_switch env place id =
    in_case (chosen_here (leaves_case (present (and_then break_unlabeled (leaves_list refl) refl)) refl)) refl

-- a labeled continue leaves the inner loop, and the outer one begins its next turn, as in
-- `a: while (x) { b: while (x) { continue a } }`
continue_outward : (env : Environment) (place : Place) (id : EvaluationOrder)
    → RunsStatement env (TerminalStatement (While (load place)
    (labeled (While (load place) (unlabeled (Continue (to_id 5) Labeled id)) id) (named (to_id 7))) id)
    (named (to_id 5))) (Arm true ∷ Arm true ∷ Arm false ∷ []) Normal
unfolding is_silent_value
continue_outward env place id =
    let inner = leaves_loop (and_then continue_labeled (leaves_list refl) refl) refl refl in
    let body = and_then (in_while (test_holds (quiet_value refl) refl inner refl)) (leaves_list refl) refl in
    let again = nothing_before refl (test_fails (quiet_value refl) refl refl) in
    in_while (test_holds (quiet_value refl) refl (next_turn body refl again refl) refl)

-- a continue of a `for` goes to its update, as in `for (x; x; debugger) { continue }`
continue_to_update : (env : Environment) (place : Place) (id : EvaluationOrder) (span : Option Span)
    → RunsStatement env (TerminalStatement (For (load place) (load place) (Some (Base (kinds.Debugger span)))
    (unlabeled (Continue (to_id 5) Implicit id)) id)
    (named (to_id 5))) (Arm true ∷ Did (kinds.Debugger span) ∷ Arm false ∷ []) Normal
unfolding is_silent_value
continue_to_update env place id span =
    let body = and_then continue_implicit (goes_on nothing) refl in
    let again = past_before refl (did_value refl) refl (test_fails (quiet_value refl) refl refl) refl in
    past_init (quiet_value refl) refl (test_holds (quiet_value refl) refl (next_turn body refl again refl) refl) refl

-- a store of the place into a variable that exists already, and what is after it
abbrev stores : Place → Place → EvaluationOrder → Statements → Statements
stores variable place id rest =
    Cons (RowStatement id None (Base (kinds.StoreLocal (record { kind = Reassign; place = variable }) place None)) None) rest

-- a break to the label of an early return is one directly after the store, as in `x = y; break a`
returns_after_store : (env : Environment) (target : BlockId) → is_early_label env target ≡ true
    → (variable place : Place) (id : EvaluationOrder)
    → returning env (stores variable place id (unlabeled (Break target Labeled id)))
    ≡ stores variable place id (unlabeled (Return place id))
unfolding returning_after returning_statement returning_terminal
returns_after_store env target label variable place id =
    ap (λ early. stores variable place id (unlabeled (if early then Return place id else Break target Labeled id))) label

-- it stays a break where another row is in between, as in `x = y; z; break a`
breaks_after_row : (env : Environment) (target : BlockId) (variable place : Place) (id : EvaluationOrder)
    → let rest : Statements = Cons (RowStatement id None (load place) None) (unlabeled (Break target Labeled id)) in
    returning env (stores variable place id rest) ≡ stores variable place id rest
unfolding returning_after returning_statement returning_terminal
breaks_after_row env target variable place id = refl
