-- The rewriting walk of blocks and statements: by its first step with any fuel, and as a step, since its fuel is
-- enough.
use Rattle.std.proofs.Common.{◌≡◌, inl, inr, arith, ℕ, zero, suc, List, [], Option, Some, Result, Ok, Err, refl, sym}
use Rattle.std.proofs.Common.{subst}
use Rattle.rc_hir.specs.Model.{Fault, HirFunction}
use Rattle.rc_names.specs.Numbers.{EvaluationOrder}
use Rattle.rc_tree.proofs.FuelLemmas.{gives_settled, meets_made}
use Rattle.rc_tree.proofs.EnoughFuelForStatements.{known_block_to, known_block_inside, known_statement}
use Rattle.rc_tree.proofs.EnoughFuelForStatements.{known_scope_inside, known_pruned_scope_inside}
use Rattle.rc_tree.proofs.EnoughFuelForStatements.{known_terminal_inside}
use Rattle.rc_tree.specs.Step.{IsStep, perhaps}
use Rattle.rc_tree.specs.Fuel.{Done, bind, after, Hook, FueledWalk, in_turn, kept_into, perhaps_part}
use Rattle.rc_tree.specs.inside.EnoughFuel.{IsFueled}
use Rattle.rc_tree.specs.Fuel.{perhaps_hook, by_answer}
use Rattle.rc_tree.specs.Rewrite.{scope_inside, scope_at, pruned_scope_inside, pruned_scope_at, statement_at, into_at}
use Rattle.rc_tree.specs.Rewrite.{statements_at, block_inside, block_to, rewrite_block, inside_block, inside_scope}
use Rattle.rc_tree.specs.Rewrite.{inside_pruned_scope, inside_terminal, rewrite_statement}
use Rattle.rc_tree.specs.Rewrite.Terminals.{case_at, cases_at, parts_at, terminal_inside, terminal_at}
use Rattle.rc_tree.specs.Rewrite.Values.{rewrite_value}
use Rattle.rc_tree.specs.RewriteSteps.{RewriteSteps, EntersNoDeeper}
use Rattle.rc_tree.specs.Model.{PrunedReactiveScopeBlock, ReactiveTerminalStatement, Transformed, ReactiveValue}
use Rattle.rc_tree.specs.declared.scope.PrunedReactiveScopeBlock.{size-PrunedReactiveScopeBlock}
use Rattle.rc_tree.specs.declared.scope.ReactiveScopeBlock.{ReactiveScopeBlock, size-ReactiveScopeBlock}
use Rattle.rc_tree.specs.declared.statement.ReactiveBlock.{ReactiveBlock, size-ReactiveBlock}
use Rattle.rc_tree.specs.declared.statement.ReactiveStatement.{ReactiveStatement, size-ReactiveStatement}
use Rattle.rc_tree.specs.declared.terminal.ReactiveSwitchCase.{ReactiveSwitchCase, out-ReactiveSwitchCase}
use Rattle.rc_tree.specs.declared.terminal.ReactiveSwitchCase.{roll-ReactiveSwitchCase}
use Rattle.rc_tree.specs.declared.terminal.ReactiveTerminal.TheVariants as tree
use Rattle.rc_tree.specs.declared.terminal.ReactiveTerminalStatement.{size-ReactiveTerminalStatement}

-- an optional part is walked if it is there
pub gives_perhaps_hook : {W X : Type 0} (step : Hook W X (Unit {0})) (w w1 : W) (x x1 : X) (r : Result (Unit {0}) Fault)
    → IsStep (step w x) r (w1, x1) → IsStep (perhaps_hook step w (Some x)) r (w1, Some x1)
gives_perhaps_hook {W = W} {X = X} step w w1 x x1 r h = by r (step w x) h
  where
    by : (r : Result (Unit {0}) Fault) (s : Result (Unit {0} × (W × X)) Fault) → IsStep s r (w1, x1)
        → IsStep (perhaps_hook (λ w0 x0. s) w (Some x)) r (w1, Some x1)
    by (Ok a) s e = subst (λ s. IsStep (perhaps_hook (λ w0 x0. s) w (Some x)) (Ok tt) (w1, Some x1)) (sym e) refl
    by (Err fault) s (inl e) = inl e
    by (Err fault) s (inr e) =
        subst (λ s. IsStep (perhaps_hook (λ w0 x0. s) w (Some x)) (Err fault) (w1, Some x1)) (sym e) (inr refl)

-- equal pairs of values have the same properties
pub both_same : {I X : Type 0} {i i1 : I} {x x1 : X} (P : I → X → Type 0) → i ≡ i1 → x ≡ x1 → P i x → P i1 x1
both_same {i1 = i1} {x = x} P e h p = subst (P i1) h (subst (λ i. P i x) e p)

module _ {T S : Type 0} (v : RewriteSteps (T × S)) (functions : T → List HirFunction) where
  pub meets_block_to : (w : T × S) (x : ReactiveBlock) (r : Result (Unit {0}) Fault) (t : (T × S) × ReactiveBlock)
      → ((m : ℕ) → IsFueled (after (v.enter_block w x) (λ q. by_answer
      (block_inside v functions (block_to v functions m))
      v.leave_block q.0 q.1)) r t)
      → (n : ℕ) → IsFueled (block_to v functions n w x) r t
  unfolding block_to
  meets_block_to w x r t h zero = tt
  meets_block_to w x r t h (suc m) = h m

  pub meets_terminal_at : (inner : FueledWalk (T × S) ReactiveBlock) (w : T × S) (x : ReactiveTerminalStatement)
      (r : Result (Unit {0}) Fault) (t : (T × S) × ReactiveTerminalStatement)
      → IsFueled (after (v.enter_terminal w x) (λ q. by_answer (terminal_inside v functions inner) v.leave_terminal q.0
      q.1)) r t
      → IsFueled (terminal_at v functions inner w x) r t
  unfolding terminal_at
  meets_terminal_at inner w x r t h = h

  pub meets_scope_at : (inner : FueledWalk (T × S) ReactiveBlock) (w : T × S) (x : ReactiveScopeBlock)
      (r : Result (Unit {0}) Fault) (t : (T × S) × ReactiveScopeBlock)
      → IsFueled (after (v.enter_scope w x) (λ q. by_answer (scope_inside v functions inner) v.leave_scope q.0 q.1)) r t
      → IsFueled (scope_at v functions inner w x) r t
  unfolding scope_at
  meets_scope_at inner w x r t h = h

  pub meets_pruned_scope_at : (inner : FueledWalk (T × S) ReactiveBlock) (w : T × S) (x : PrunedReactiveScopeBlock)
      (r : Result (Unit {0}) Fault) (t : (T × S) × PrunedReactiveScopeBlock)
      → IsFueled (after (v.enter_pruned_scope w x) (λ q. by_answer (pruned_scope_inside v functions inner)
      v.leave_pruned_scope q.0 q.1)) r t
      → IsFueled (pruned_scope_at v functions inner w x) r t
  unfolding pruned_scope_at
  meets_pruned_scope_at inner w x r t h = h

  pub meets_case_at : (inner : FueledWalk (T × S) ReactiveBlock) (id : EvaluationOrder) (w : T × S)
      (x : ReactiveSwitchCase)
      (r : Result (Unit {0}) Fault) (t : (T × S) × ReactiveSwitchCase)
      → IsFueled (after (perhaps (v.visit_place id) (out-ReactiveSwitchCase x).test w)
      (λ a. bind (perhaps_part inner a.1 (out-ReactiveSwitchCase x).block) (λ b.
      Done (tt, (b.1.0, roll-ReactiveSwitchCase (record { test = (out-ReactiveSwitchCase x).test; block = b.1.1 }))))))
      r t
      → IsFueled (case_at v functions inner id w x) r t
  unfolding case_at
  meets_case_at inner id w x r t h = h

  -- the longest arm: four steps come before the body of a `For`
  pub meets_For : (inner : FueledWalk (T × S) ReactiveBlock) (w w1 w2 w3 w4 w5 : T × S)
      (init init1 test test1 : ReactiveValue) (update update1 : Option ReactiveValue) (body body1 : ReactiveBlock)
      (id : EvaluationOrder) (r : Result (Unit {0}) Fault)
      → v.visit_id id w ≡ Ok (tt, w1) → rewrite_value v functions id w1 init ≡ Ok (tt, (w2, init1))
      → rewrite_value v functions id w2 test ≡ Ok (tt, (w3, test1))
      → perhaps_hook (rewrite_value v functions id) w3 update ≡ Ok (tt, (w4, update1))
      → IsFueled (inner w4 body) r (w5, body1)
      → IsFueled (parts_at v functions inner w (tree.For init test update body id)) r
      (w5, tree.For init1 test1 update1 body1 id)
  meets_For inner w w1 w2 w3 w4 w5 init init1 test test1 update update1 body body1 id r visited e1 e2 e3 h =
      rw (tree.outs-For init test update body id, visited, e1, e2, e3)
      (meets_made (inner w4 body) (λ b. tree.For init1 test1 update1 b id) r w5 body1 h)

  pub cases_at-in_turn : (inner : FueledWalk (T × S) ReactiveBlock) (id : EvaluationOrder) (w : T × S)
      (cases : List ReactiveSwitchCase)
      → cases_at v functions inner id w cases ≡ in_turn (kept_into (case_at v functions inner id)) w [] cases
  unfolding cases_at
  cases_at-in_turn inner id w cases = refl

  pub statements_at-in_turn : (inner : FueledWalk (T × S) ReactiveBlock) (w : T × S) (xs : List ReactiveStatement)
      → statements_at v functions inner w xs ≡ in_turn (into_at v functions inner) w [] xs
  unfolding statements_at
  statements_at-in_turn inner w xs = refl

  module _ (enters : EntersNoDeeper v) where
    pub gives_rewrite_block : (w : T × S) (x : ReactiveBlock) (r : Result (Unit {0}) Fault)
        (t : (T × S) × ReactiveBlock)
        → ((n : ℕ) → IsFueled (block_to v functions n w x) r t) → IsStep (rewrite_block v functions w x) r t
    unfolding rewrite_block
    gives_rewrite_block w x r t h =
        let n : ℕ = suc (size-ReactiveBlock x) in
        gives_settled (block_to v functions n w x) r t (known_block_to v functions enters n w x (omega arith)) (h n)

    pub gives_inside_block : (w : T × S) (x : ReactiveBlock) (r : Result (Unit {0}) Fault) (t : (T × S) × ReactiveBlock)
        → ((n : ℕ) → IsFueled (block_inside v functions (block_to v functions n) w x) r t)
        → IsStep (inside_block v functions w x) r t
    unfolding inside_block
    gives_inside_block w x r t h =
        let n : ℕ = size-ReactiveBlock x in
        gives_settled (block_inside v functions (block_to v functions n) w x) r t
        (known_block_inside v functions n (block_to v functions n) (known_block_to v functions enters n) enters w x
        (omega arith)) (h n)

    pub gives_inside_scope : (w : T × S) (x : ReactiveScopeBlock) (r : Result (Unit {0}) Fault)
        (t : (T × S) × ReactiveScopeBlock)
        → ((n : ℕ) → IsFueled (scope_inside v functions (block_to v functions n) w x) r t)
        → IsStep (inside_scope v functions w x) r t
    unfolding inside_scope
    gives_inside_scope w x r t h =
        let n : ℕ = size-ReactiveScopeBlock x in
        gives_settled (scope_inside v functions (block_to v functions n) w x) r t
        (known_scope_inside v functions n (block_to v functions n) (known_block_to v functions enters n) w x
        (omega arith)) (h n)

    pub gives_inside_pruned_scope : (w : T × S) (x : PrunedReactiveScopeBlock) (r : Result (Unit {0}) Fault)
        (t : (T × S) × PrunedReactiveScopeBlock)
        → ((n : ℕ) → IsFueled (pruned_scope_inside v functions (block_to v functions n) w x) r t)
        → IsStep (inside_pruned_scope v functions w x) r t
    unfolding inside_pruned_scope
    gives_inside_pruned_scope w x r t h =
        let n : ℕ = size-PrunedReactiveScopeBlock x in
        gives_settled (pruned_scope_inside v functions (block_to v functions n) w x) r t
        (known_pruned_scope_inside v functions n (block_to v functions n) (known_block_to v functions enters n) w x
        (omega arith)) (h n)

    pub gives_inside_terminal : (w : T × S) (x : ReactiveTerminalStatement) (r : Result (Unit {0}) Fault)
        (t : (T × S) × ReactiveTerminalStatement)
        → ((n : ℕ) → IsFueled (terminal_inside v functions (block_to v functions n) w x) r t)
        → IsStep (inside_terminal v functions w x) r t
    unfolding inside_terminal
    gives_inside_terminal w x r t h =
        let n : ℕ = size-ReactiveTerminalStatement x in
        gives_settled (terminal_inside v functions (block_to v functions n) w x) r t
        (known_terminal_inside v functions n (block_to v functions n) (known_block_to v functions enters n) w x
        (omega arith)) (h n)

    pub gives_rewrite_statement : (w : T × S) (x : ReactiveStatement) (r : Result (Transformed ReactiveStatement) Fault)
        (t : (T × S) × ReactiveStatement)
        → ((n : ℕ) → IsFueled (statement_at v functions (block_to v functions n) w x) r t)
        → IsStep (rewrite_statement v functions w x) r t
    unfolding rewrite_statement
    gives_rewrite_statement w x r t h =
        let n : ℕ = size-ReactiveStatement x in
        gives_settled (statement_at v functions (block_to v functions n) w x) r t
        (known_statement v functions n (block_to v functions n) (known_block_to v functions enters n) enters w x
        (omega arith)) (h n)

-- with these, `search` follows the rewriting walk of a statement through its calls
pub ruleset rewriting_statements = (
  gives_perhaps_hook,
  meets_block_to,
  meets_terminal_at,
  meets_scope_at,
  meets_pruned_scope_at,
  meets_case_at,
  gives_rewrite_block,
  gives_inside_block,
  gives_inside_scope,
  gives_inside_pruned_scope,
  gives_inside_terminal,
  gives_rewrite_statement,
)
