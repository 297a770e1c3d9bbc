-- The rewriting walk of blocks and statements: more fuel than their size is enough.
use Rattle.std.proofs.Common.{◌≤◌, ◌<◌, ◌+◌, arith, ℕ, zero, suc, List, [], ◌++◌, Option, None, Some}
use denote.Hole.Carrier.{Values}
use denote.Param.Weighed.{most}
use Rattle.rc_hir.specs.Model.{HirFunction}
use Rattle.rc_names.specs.Numbers.{EvaluationOrder}
use Rattle.rc_tree.proofs.EnoughFuel.{known_bind, known_after, known_turn, known_each, known_around, done}
use Rattle.rc_tree.proofs.EnoughFuel.{visit, hook, part}
use Rattle.rc_tree.specs.Unrolled.{UnrolledStatement, UnrolledTerminal}
use Rattle.rc_tree.specs.Fuel.{Done, FueledWalk, perhaps_part}
use Rattle.rc_tree.specs.inside.EnoughFuel.{HasFuel}
use Rattle.rc_tree.specs.Rewrite.{scope_inside, scope_at, pruned_scope_inside, pruned_scope_at, statement_layer}
use Rattle.rc_tree.specs.Rewrite.{statement_at, into_at, statements_at, block_inside, block_to, in_place}
use Rattle.rc_tree.specs.Rewrite.Terminals.{case_at, cases_at, parts_layer, parts_at, terminal_inside, terminal_at}
use Rattle.rc_tree.specs.RewriteSteps.{RewriteSteps, EntersNoDeeper}
use Rattle.rc_tree.specs.Model.{PrunedReactiveScopeBlock, ReactiveTerminalStatement}
use Rattle.rc_tree.specs.declared.scope.PrunedReactiveScopeBlock.{size-PrunedReactiveScopeBlock}
use Rattle.rc_tree.specs.declared.scope.PrunedReactiveScopeBlock.{size_is-PrunedReactiveScopeBlock}
use Rattle.rc_tree.specs.declared.scope.ReactiveScopeBlock.{ReactiveScopeBlock, size-ReactiveScopeBlock}
use Rattle.rc_tree.specs.declared.scope.ReactiveScopeBlock.{size_is-ReactiveScopeBlock}
use Rattle.rc_tree.specs.declared.statement.ReactiveBlock.{ReactiveBlock, size-ReactiveBlock, size_is-ReactiveBlock}
use Rattle.rc_tree.specs.declared.statement.ReactiveStatement.{ReactiveStatement, size-ReactiveStatement}
use Rattle.rc_tree.specs.declared.statement.ReactiveStatement.{size_is-ReactiveStatement, out-ReactiveStatement}
use Rattle.rc_tree.specs.declared.statement.ReactiveStatement.TheBlock as tree
use Rattle.rc_tree.specs.declared.statement.ReactiveStatement.TheOpen as layer
use Rattle.rc_tree.specs.declared.statement.ReactiveStatement.TheShapes as shapes
use Rattle.rc_tree.specs.declared.terminal.ReactiveSwitchCase.{ReactiveSwitchCase, out-ReactiveSwitchCase}
use Rattle.rc_tree.specs.declared.terminal.ReactiveSwitchCase.{size-ReactiveSwitchCase, size_is-ReactiveSwitchCase}
use Rattle.rc_tree.specs.declared.terminal.ReactiveTerminal.{out-ReactiveTerminal}
use Rattle.rc_tree.specs.declared.terminal.ReactiveTerminal.{size_is-ReactiveTerminal}
use Rattle.rc_tree.specs.declared.terminal.ReactiveTerminalStatement.{size-ReactiveTerminalStatement}
use Rattle.rc_tree.specs.declared.terminal.ReactiveTerminalStatement.{size_is-ReactiveTerminalStatement}

module _ {T S : Type 0} (v : RewriteSteps (T × S)) (functions : T → List HirFunction) where
  module _ (n : ℕ) (inner : FueledWalk (T × S) ReactiveBlock) (known : (w : T × S) (b : ReactiveBlock)
      → size-ReactiveBlock b < n → HasFuel (inner w b)) where
    abbrev weigh_terminal : UnrolledTerminal → ℕ
    weigh_terminal l = tree.weighs-ReactiveTerminal.weight (Values tree.the_members tree.the_sigs tree.the_carrier)
        tree.the_depth l

    abbrev weigh_statement : UnrolledStatement → ℕ
    weigh_statement l = tree.weighs-ReactiveStatement.weight (Values tree.the_members tree.the_sigs tree.the_carrier)
        tree.the_depth l

    known_block_if : (o : Option ReactiveBlock) → shapes.weighed-ReactiveTerminal-If-2.weight ReactiveBlock
        size-ReactiveBlock o < n → (w : T × S) → HasFuel (perhaps_part inner w o)
    known_block_if None k w = done (tt, (w, None))
    known_block_if (Some y) k w = part (inner w y) (λ r. Done (tt, (r.1.0, Some r.1.1))) (known w y (omega (arith, k)))
        (λ w1 x1. done (tt, (w1, Some x1)))

    known_case : (id : EvaluationOrder) (w : T × S) (x : ReactiveSwitchCase) → size-ReactiveSwitchCase x ≤ n
        → HasFuel (case_at v functions inner id w x)
    unfolding case_at
    known_case id w x h =
        let k : (w : T × S) → HasFuel (perhaps_part inner w (out-ReactiveSwitchCase x).block) = known_block_if
        (out-ReactiveSwitchCase x).block (omega (arith, h, size_is-ReactiveSwitchCase x)) in
        search (visit, part, done, k)

    known_cases : (id : EvaluationOrder) (cases : List ReactiveSwitchCase) → most size-ReactiveSwitchCase cases ≤ n
        → (w : T × S) → HasFuel (cases_at v functions inner id w cases)
    unfolding cases_at
    known_cases id cases h w =
        known_each size-ReactiveSwitchCase n (case_at v functions inner id) (known_case id) cases h w

    known_parts : (w : T × S) (l : UnrolledTerminal) → weigh_terminal l < n
        → HasFuel (parts_layer v functions inner w l)
    known_parts w (layer.Break target kind id) h = search (visit, hook, part, done)
    known_parts w (layer.Continue target kind id) h = search (visit, hook, part, done)
    known_parts w (layer.Return place id) h = search (visit, hook, part, done)
    known_parts w (layer.Throw place id) h = search (visit, hook, part, done)
    known_parts w (layer.Switch test cases id) h =
        let kcases : (w : T × S) → HasFuel (cases_at v functions inner id w cases) = known_cases id cases
        (omega (arith, h)) in
        search (visit, hook, part, done, kcases)
    known_parts w (layer.DoWhile body test id) h =
        let kbody : (w : T × S) → HasFuel (inner w body) = λ w. known w body (omega (arith, h)) in
        search (visit, hook, part, done, kbody)
    known_parts w (layer.While test body id) h =
        let kbody : (w : T × S) → HasFuel (inner w body) = λ w. known w body (omega (arith, h)) in
        search (visit, hook, part, done, kbody)
    known_parts w (layer.For init test update body id) h =
        let kbody : (w : T × S) → HasFuel (inner w body) = λ w. known w body (omega (arith, h)) in
        search (visit, hook, part, done, kbody) depth 8
    known_parts w (layer.ForOf init test body span id) h =
        let kbody : (w : T × S) → HasFuel (inner w body) = λ w. known w body (omega (arith, h)) in
        search (visit, hook, part, done, kbody) depth 8
    known_parts w (layer.ForIn init body span id) h =
        let kbody : (w : T × S) → HasFuel (inner w body) = λ w. known w body (omega (arith, h)) in
        search (visit, hook, part, done, kbody)
    known_parts w (layer.If test consequent alternate id) h =
        let kthen : (w : T × S) → HasFuel (inner w consequent) = λ w. known w consequent (omega (arith, h)) in
        let kelse : (w : T × S) → HasFuel (perhaps_part inner w alternate) = known_block_if alternate (omega (arith, h))
        in
        search (visit, hook, part, done, kthen, kelse)
    known_parts w (layer.Label body id) h =
        let kbody : (w : T × S) → HasFuel (inner w body) = λ w. known w body (omega (arith, h)) in
        search (visit, hook, part, done, kbody)
    known_parts w (layer.Try body binding handler id) h =
        let kbody : (w : T × S) → HasFuel (inner w body) = λ w. known w body (omega (arith, h)) in
        let khandler : (w : T × S) → HasFuel (inner w handler) = λ w. known w handler (omega (arith, h)) in
        search (visit, hook, part, done, kbody, khandler)

    pub known_terminal_inside : (w : T × S) (x : ReactiveTerminalStatement) → size-ReactiveTerminalStatement x ≤ n
        → HasFuel (terminal_inside v functions inner w x)
    known_terminal_inside w x h =
        part (parts_at v functions inner w x.terminal) (λ r. Done
        (tt, (r.1.0, record { terminal = r.1.1; label = x.label })))
        (known_parts w (out-ReactiveTerminal x.terminal) (omega
        (arith, h, size_is-ReactiveTerminalStatement x, size_is-ReactiveTerminal x.terminal)))
        (λ w2 t. done (tt, (w2, record { terminal = t; label = x.label })))

    pub known_scope_inside : (w : T × S) (x : ReactiveScopeBlock) → size-ReactiveScopeBlock x ≤ n
        → HasFuel (scope_inside v functions inner w x)
    known_scope_inside w x h =
        part (inner w x.instructions) (λ r. Done (tt, (r.1.0, record { scope = x.scope; instructions = r.1.1 })))
        (known w x.instructions (omega (arith, h, size_is-ReactiveScopeBlock x)))
        (λ w2 t. done (tt, (w2, record { scope = x.scope; instructions = t })))

    pub known_pruned_scope_inside : (w : T × S) (x : PrunedReactiveScopeBlock) → size-PrunedReactiveScopeBlock x ≤ n
        → HasFuel (pruned_scope_inside v functions inner w x)
    known_pruned_scope_inside w x h =
        part (inner w x.instructions) (λ r. Done (tt, (r.1.0, record { scope = x.scope; instructions = r.1.1 })))
        (known w x.instructions (omega (arith, h, size_is-PrunedReactiveScopeBlock x)))
        (λ w2 t. done (tt, (w2, record { scope = x.scope; instructions = t })))

    module _ (enters : EntersNoDeeper v) where
      known_terminal : (w : T × S) (x : ReactiveTerminalStatement) → size-ReactiveTerminalStatement x ≤ n
          → HasFuel (terminal_at v functions inner w x)
      unfolding terminal_at
      known_terminal w x h = known_around v.enter_terminal (terminal_inside v functions inner) v.leave_terminal w x
          (λ w1 x1 a e. known_terminal_inside w1 x1 (omega (arith, h, enters.terminal w w1 x x1 a e)))

      known_scope : (w : T × S) (x : ReactiveScopeBlock) → size-ReactiveScopeBlock x ≤ n
          → HasFuel (scope_at v functions inner w x)
      unfolding scope_at
      known_scope w x h = known_around v.enter_scope (scope_inside v functions inner) v.leave_scope w x
          (λ w1 x1 a e. known_scope_inside w1 x1 (omega (arith, h, enters.scope w w1 x x1 a e)))

      known_pruned_scope : (w : T × S) (x : PrunedReactiveScopeBlock) → size-PrunedReactiveScopeBlock x ≤ n
          → HasFuel (pruned_scope_at v functions inner w x)
      unfolding pruned_scope_at
      known_pruned_scope w x h =
          known_around v.enter_pruned_scope (pruned_scope_inside v functions inner) v.leave_pruned_scope w x
          (λ w1 x1 a e. known_pruned_scope_inside w1 x1 (omega (arith, h, enters.pruned_scope w w1 x x1 a e)))

      known_layer : (w : T × S) (l : UnrolledStatement) → weigh_statement l ≤ n
          → HasFuel (statement_layer v functions inner w l)
      known_layer w (layer.Instruction x) h = search (known_bind, known_after, done)
      known_layer w (layer.Terminal x) h =
          let k : HasFuel (terminal_at v functions inner w x) = known_terminal w x (omega (arith, h)) in search
          (known_bind, known_after, done, k)
      known_layer w (layer.Scope x) h =
          let k : HasFuel (scope_at v functions inner w x) = known_scope w x (omega (arith, h)) in search
          (known_bind, known_after, done, k)
      known_layer w (layer.PrunedScope x) h =
          let k : HasFuel (pruned_scope_at v functions inner w x) = known_pruned_scope w x (omega (arith, h)) in search
          (known_bind, known_after, done, k)

      pub known_statement : (w : T × S) (x : ReactiveStatement) → size-ReactiveStatement x ≤ n + 1
          → HasFuel (statement_at v functions inner w x)
      known_statement w x h = known_layer w (out-ReactiveStatement x) (omega (arith, h, size_is-ReactiveStatement x))

      known_into : (w : T × S) (before : List ReactiveStatement) (x : ReactiveStatement) → size-ReactiveStatement x ≤ n
          → HasFuel (into_at v functions inner w before x)
      unfolding into_at
      known_into w before x h =
          known_bind (statement_at v functions inner w x) (λ a. Done (tt, (a.1.0, before ++ in_place a.0 a.1.1)))
          (known_statement w x (omega (arith, h))) (λ a e. done (tt, (a.1.0, before ++ in_place a.0 a.1.1)))

      known_statements : (xs : List ReactiveStatement) → most size-ReactiveStatement xs ≤ n → (w : T × S)
          → HasFuel (statements_at v functions inner w xs)
      unfolding statements_at
      known_statements xs h w = known_turn size-ReactiveStatement n (into_at v functions inner) known_into w [] xs h

      pub known_block_inside : (w : T × S) (x : ReactiveBlock) → size-ReactiveBlock x ≤ n + 1
          → HasFuel (block_inside v functions inner w x)
      known_block_inside w x h =
          part (statements_at v functions inner w x.statements) (λ r. Done (tt, (r.1.0, record { statements = r.1.1 })))
          (known_statements x.statements (omega (arith, h, size_is-ReactiveBlock x)) w)
          (λ w2 xs. done (tt, (w2, record { statements = xs })))

  -- more fuel than the size of a block is enough
  pub known_block_to : EntersNoDeeper v → (n : ℕ) (w : T × S) (x : ReactiveBlock) → size-ReactiveBlock x < n
      → HasFuel (block_to v functions n w x)
  unfolding block_to
  known_block_to enters zero w x h = absurd (omega (arith, h))
  known_block_to enters (suc n) w x h =
      known_around v.enter_block (block_inside v functions (block_to v functions n)) v.leave_block w x
      (λ w1 x1 a e. known_block_inside n (block_to v functions n) (known_block_to enters n) enters w1 x1
      (omega (arith, h, enters.block w w1 x x1 a e)))
