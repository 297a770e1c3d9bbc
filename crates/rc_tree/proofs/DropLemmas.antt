-- The depth of a list or a terminal after blocks in it have been emptied.
use Rattle.std.proofs.Common.{◌≡◌, ◌≤◌, ◌<◌, ℕ, zero, suc, max, List, [], ◌∷◌, Some, slice_get, slice_set}
use Rattle.std.proofs.Common.{false, true, IsTrue, arith, subst, refl}
use Rattle.std.proofs.lemmas.Option.{slice_get_within, get_or_from_slice_get}
use denote.Param.Weighed.{most, at_most}
use Rattle.rc_hir.specs.Model.{Place}
use Rattle.rc_names.specs.Numbers.{EvaluationOrder}
use Rattle.rc_tree.specs.declared.statement.ReactiveBlock.{ReactiveBlock, size-ReactiveBlock}
use Rattle.rc_tree.specs.declared.statement.ReactiveStatement.{ReactiveStatement, size-ReactiveStatement}
use Rattle.rc_tree.specs.declared.statement.ReactiveStatement.{size_is-ReactiveStatement}
use Rattle.rc_tree.specs.declared.terminal.ReactiveSwitchCase.{ReactiveSwitchCase, size-ReactiveSwitchCase}
use Rattle.rc_tree.specs.declared.terminal.ReactiveTerminal.{size-ReactiveTerminal, size_is-ReactiveTerminal}
use Rattle.rc_tree.specs.declared.terminal.ReactiveTerminal.TheVariants as tree

module _ {X : Type 0} (μ : X → ℕ) (xs : List X) (i : ℕ) where
  pub most_get : (x : X) → slice_get xs i ≡ Some x → μ x ≤ most μ xs
  most_get x e =
      subst (λ y. μ y ≤ most μ xs) (get_or_from_slice_get xs i x x e) (at_most μ xs i x (slice_get_within xs i x e))

most-slice_set : {X : Type 0} (μ : X → ℕ) (xs : List X) (i : ℕ) (x : X)
    → most μ (slice_set xs i x) ≤ max (μ x) (most μ xs)
most-slice_set μ [] i x = omega arith
most-slice_set μ (y ∷ ys) zero x = omega arith
most-slice_set μ (y ∷ ys) (suc i) x = omega (arith, most-slice_set μ ys i x)

-- an entry that becomes no deeper makes its list no deeper
pub most_set : {X : Type 0} (μ : X → ℕ) (xs : List X) (i : ℕ) (x y : X)
    → slice_get xs i ≡ Some x → μ y ≤ μ x → most μ (slice_set xs i y) ≤ most μ xs
most_set μ xs i x y e h = omega (arith, h, most_get μ xs i x e, most-slice_set μ xs i y)

-- a list that has a statement has some depth
pub most_some : (xs : List ReactiveStatement) → (xs ≡ [] → IsTrue false) → 0 < most size-ReactiveStatement xs
most_some [] h = absurd (let p : false ≡ true = h refl in cc)
most_some (x ∷ xs) h = omega (arith, size_is-ReactiveStatement x)

module _ (test : Place) (id : EvaluationOrder) where
  pub size_switch : (cases : List ReactiveSwitchCase)
      → size-ReactiveTerminal (tree.Switch test cases id) ≡ suc (most size-ReactiveSwitchCase cases)
  size_switch cases =
      rw (size_is-ReactiveTerminal (tree.Switch test cases id), tree.outs-Switch test cases id) (omega arith)

  size_if : (consequent alternate : ReactiveBlock)
      → size-ReactiveTerminal (tree.If test consequent (Some alternate) id)
      ≡ suc (max (size-ReactiveBlock consequent) (size-ReactiveBlock alternate))
  size_if consequent alternate =
      let whole = tree.If test consequent (Some alternate) id in
      rw (size_is-ReactiveTerminal whole, tree.outs-If test consequent (Some alternate) id) (omega arith)

  pub switch_rest : (cases left : List ReactiveSwitchCase)
      → most size-ReactiveSwitchCase left ≤ most size-ReactiveSwitchCase cases
      → size-ReactiveTerminal (tree.Switch test left id) ≤ size-ReactiveTerminal (tree.Switch test cases id)
  switch_rest cases left h = omega (arith, h, size_switch cases, size_switch left)

  pub if_rest : (consequent consequent1 alternate alternate1 : ReactiveBlock)
      → size-ReactiveBlock consequent1 ≤ size-ReactiveBlock consequent
      → size-ReactiveBlock alternate1 ≤ size-ReactiveBlock alternate
      → size-ReactiveTerminal (tree.If test consequent1 (Some alternate1) id)
      ≤ size-ReactiveTerminal (tree.If test consequent (Some alternate) id)
  if_rest consequent consequent1 alternate alternate1 h k =
      omega (arith, h, k, size_if consequent alternate, size_if consequent1 alternate1)
