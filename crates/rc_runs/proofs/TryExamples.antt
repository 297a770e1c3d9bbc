-- A try whose protected block makes a call, as in `try { f() } catch { debugger } return f`: the tree that its graph
-- spells, and a run in which the call throws, of the graph and of the body.
use Rattle.std.proofs.Common.{◌≡◌, List, [], ◌∷◌, Some, None, true, false, not, refl, sym, ap, ◌∙◌, subst}
use Rattle.rc_names.specs.Numbers.{BlockId, to_id}
use Rattle.rc_hir.specs.Model.{Environment, HirFunction, Instruction, Place, Terminal}
use Rattle.rc_hir.specs.declared.instruction.InstructionValue.TheVariants as kinds
use Rattle.rc_hir.specs.declared.terminal.GotoVariant.TheVariants as variants
use Rattle.rc_hir.specs.declared.terminal.Terminal.TheVariants as terminals
use Rattle.rc_tree.specs.declared.kind.ReactiveTerminalTargetKind.TheVariants.{Implicit}
use Rattle.rc_runs.specs.Completion.{Ended}
use Rattle.rc_runs.specs.BodyRun.{RunsList, row, returned, break_implicit, in_handler, and_then, goes_on, leaves_list}
use Rattle.rc_runs.specs.BodyRun.{nothing, stopped}
use Rattle.rc_runs.specs.Event.{Event, Did, Threw, End, Open, Returned}
use Rattle.rc_runs.specs.Fallthrough.{label_of}
use Rattle.rc_runs.specs.SimpleStatements.{rows_before, unlabeled}
use Rattle.rc_runs.specs.Grammar.{SpellsList, from_block, returns, breaks, leaves_try, may_throw, try_statement}
use Rattle.rc_runs.specs.Grammar.{and_rest, has_rest}
use Rattle.rc_runs.specs.Graph.{Block, block_at, usable_block, ends_unreachable}
use Rattle.rc_runs.specs.GraphRun as graph
use Rattle.rc_runs.specs.GraphRun.{GraphRun, GraphRunAt, arrives, enters, quiet, did, moved}
use Rattle.rc_runs.specs.ListContext.{outermost}
use Rattle.rc_runs.specs.PlainTree.{Statements, Nil, Cons, TerminalStatement, Break, Return, Try}
use Rattle.rc_runs.specs.Silent.{is_silent_value}
use Rattle.rc_runs.specs.ValueRun.{did_value, set_row}
use Rattle.rc_runs.proofs.GraphLemmas.{one_held, usable_block-at, ends_unreachable-at}

-- the call of the protected block, and the row of the handler
abbrev call : Place → Instruction
call place = record { id = to_id 2; lvalue = place; value = kinds.CallExpression place [] None; span = None }

abbrev debugger : Place → Instruction
debugger place = record { id = to_id 5; lvalue = place; value = kinds.Debugger None; span = None }

-- the statements of the protected block, of the handler, and of the whole body
abbrev protected : Place → Statements
protected place = rows_before (call place ∷ []) Nil

abbrev handling : Place → Statements
handling place = rows_before (debugger place ∷ []) (unlabeled (Break (to_id 4) Implicit (to_id 6)))

abbrev body : Place → Statements
body place = Cons
    (TerminalStatement (Try (protected place) None (handling place) (to_id 1)) (label_of true (to_id 4)))
    (unlabeled (Return place (to_id 7)))

module _ (env : Environment) (place : Place) where
  -- the call has its event before it throws, and the handler runs to the end of the try
  body_throws : RunsList env (body place)
      (Did (call place).value ∷ Threw ∷ Did (debugger place).value ∷ []) (Ended (Returned place))
  unfolding is_silent_value
  body_throws =
      let called = and_then (row (set_row refl (did_value refl)) refl) (goes_on stopped) refl in
      let jump = and_then break_implicit (goes_on nothing) refl in
      let handled = and_then (row (set_row refl (did_value refl)) refl) (goes_on jump) refl in
      let after = and_then returned (leaves_list refl) refl in
      and_then (in_handler called refl handled refl refl) (goes_on after) refl

  -- the handler takes over wherever the run has come, so also before the call
  body_throws_early : RunsList env (body place) (Threw ∷ []) (Ended Open)
  body_throws_early = and_then (in_handler stopped refl stopped refl refl) (leaves_list refl) refl

  module _ (hir : HirFunction)
      (entry : usable_block hir (to_id 0) ≡ Some (record {
        rows = [];
        terminal = terminals.Try (to_id 1) None (to_id 3) (to_id 4) (to_id 1) None;
      }))
      (first : usable_block hir (to_id 1) ≡ Some (record {
        rows = call place ∷ [];
        terminal = terminals.MaybeThrow (to_id 2) (Some (to_id 3)) (to_id 3) None;
      }))
      (last : usable_block hir (to_id 2) ≡ Some (record {
        rows = [];
        terminal = terminals.Goto (to_id 4) variants.Try (to_id 4) None;
      }))
      (handler : usable_block hir (to_id 3) ≡ Some (record {
        rows = debugger place ∷ [];
        terminal = terminals.Goto (to_id 4) variants.Break (to_id 6) None;
      }))
      (after : usable_block hir (to_id 4) ≡ Some (record {
        rows = [];
        terminal = terminals.Return place (to_id 7) None;
      })) where
    spells_body : SpellsList hir env (to_id 0) outermost (body place)
        (to_id 0 ∷ to_id 1 ∷ to_id 2 ∷ to_id 3 ∷ to_id 4 ∷ [])
    spells_body =
        let reached : ends_unreachable hir (to_id 4) ≡ false =
        ends_unreachable-at hir (to_id 4) _ (usable_block-at hir (to_id 4) _ after) in
        let inside = from_block first refl (may_throw refl refl (from_block last refl (leaves_try refl) refl)) refl in
        let caught = from_block handler refl (breaks refl) refl in
        let whole = try_statement (sym (ap not reached)) refl inside caught refl in
        from_block entry refl (and_rest whole (has_rest (from_block after refl returns refl)) refl) refl

    graph_throws : GraphRunAt hir env (to_id 0)
        (Did (call place).value ∷ Threw ∷ Did (debugger place).value ∷ []) (Returned place)
    unfolding is_silent_value
    graph_throws =
        let back = enters (usable_block-at hir (to_id 4) _ after) graph.returned in
        let handled = enters (usable_block-at hir (to_id 3) _ handler) (did refl (moved graph.goes_to back refl)) in
        let called = enters (usable_block-at hir (to_id 1) _ first) (did refl (moved graph.throws handled refl)) in
        enters (usable_block-at hir (to_id 0) _ entry) (moved graph.goes_to called refl)

    -- a run from the block under a key is one of that block
    run_of : {block other : Block} {events : List Event} {end : End} (key : BlockId)
        → usable_block hir key ≡ Some block → block_at hir key ≡ Some other
        → GraphRun hir env other.rows other.terminal events end → GraphRun hir env block.rows block.terminal events end
    run_of {events = events} {end} key usable found run =
        let same = one_held found (usable_block-at hir key _ usable) in
        subst (λ (b : Block). GraphRun hir env b.rows b.terminal events end) (sym same) run

    after_call : {terminal : Terminal} {all events : List Event} {end : End} → all ≡ Threw ∷ events
        → GraphRun hir env (call place ∷ []) terminal all end → ⊥
    unfolding is_silent_value
    after_call e graph.stopped = let bad : ⊥ = cc in bad
    after_call e (quiet silent run) = let bad : ⊥ = cc in bad
    after_call e (did seen run) = let bad : ⊥ = cc in bad

    after_entry : {all events : List Event} {end : End} → all ≡ Threw ∷ events
        → GraphRun hir env [] (terminals.Try (to_id 1) None (to_id 3) (to_id 4) (to_id 1) None) all end → ⊥
    after_entry e graph.stopped = let bad : ⊥ = cc in bad
    after_entry e (moved graph.goes_to arrives w) = let bad : ⊥ = cc in bad
    after_entry e (moved graph.goes_to (enters found run) w) =
        after_call (sym w ∙ e) (run_of (to_id 1) first found run)

    -- in the graph a block throws at its end alone, so the call comes first
    graph_throws_late : {all events : List Event} {end : End} → all ≡ Threw ∷ events
        → GraphRunAt hir env (to_id 0) all end → ⊥
    graph_throws_late e arrives = let bad : ⊥ = cc in bad
    graph_throws_late e (enters found run) = after_entry e (run_of (to_id 0) entry found run)
