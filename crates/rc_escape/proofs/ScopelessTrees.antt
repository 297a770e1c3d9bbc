-- Two sets of rules that differ only for scope blocks rebuild a tree without scope blocks alike.
use Rattle.std.proofs.Common.{◌≡◌, ◌∙◌, List, [], ◌∷◌, ◌++◌, Ok, Option, None, Some, append-nil, map, refl, sym, ap}
use Rattle.rc_names.specs.Numbers.{EvaluationOrder, ScopeId}
use Rattle.rc_tree.proofs.CollectedLemmas.{collected-block, collected-case, collected-Terminal, collected-Scope}
use Rattle.rc_tree.proofs.CollectedLemmas.{collected-PrunedScope, collected-Switch}
use Rattle.rc_tree.proofs.RebuiltLemmas.{opened_case, rebuilt-block, rebuilt-labeled, rebuilt-pruned_scope}
use Rattle.rc_tree.proofs.RebuiltLemmas.{rebuilt-Instruction, rebuilt-Terminal, rebuilt-PrunedScope, rebuilt-Switch}
use Rattle.rc_tree.proofs.TerminalShapes.{OneBlock, TwoBlocks, collected-one, collected-two, of_one, of_two}
use Rattle.rc_tree.proofs.TerminalShapes.{rebuilt-leaf, rebuilt-one, rebuilt-two, with_block, with_blocks}
use Rattle.rc_tree.proofs.TerminalShapes as shapes
use Rattle.rc_tree.proofs.TreeInduction.{IsInductive, TreeClaims, of_every_block}
use Rattle.rc_tree.specs.Collected.{collected_case, collected_cases, collected_list, collected_statement}
use Rattle.rc_tree.specs.Collected.{collected_terminal}
use Rattle.rc_tree.specs.Model.{ReactiveBlock, ReactiveScopeBlock, ReactiveStatement}
use Rattle.rc_tree.specs.Rebuilt.{Rebuilds, Rules, in_order, joined, rebuilt_block, rebuilt_case}
use Rattle.rc_tree.specs.Rebuilt.{rebuilt_statement, rebuilt_terminal}
use Rattle.rc_tree.specs.ScopesIn.{scope_parts, scopes_in}
use Rattle.rc_tree.specs.Step.{bind}
use Rattle.rc_tree.specs.declared.terminal.ReactiveSwitchCase.{roll-ReactiveSwitchCase}
use Rattle.rc_tree.specs.declared.terminal.ReactiveTerminal.TheVariants as tree

-- of two parts, neither has a scope block where both together have none
pub left_none : {X : Type 0} (xs ys : List X) → xs ++ ys ≡ [] → xs ≡ []
left_none [] ys e = refl
left_none (x ∷ xs) ys e = absurd (let bad : ⊥ = cc in bad)

pub right_none : {X : Type 0} (xs ys : List X) → xs ++ ys ≡ [] → ys ≡ []
right_none [] ys e = e
right_none (x ∷ xs) ys e = absurd (let bad : ⊥ = cc in bad)

pub not_none : {X : Type 0} (xs : List X) (x : X) → xs ++ x ∷ [] ≡ [] → ⊥
not_none xs x e = let last = right_none xs (x ∷ []) e in let bad : ⊥ = cc in bad

-- a terminal has the scope blocks of its blocks
pub one_has : (shape : OneBlock) (scopes : List ScopeId) → of_one scope_parts shape scopes ≡ scopes
one_has (shapes.DoWhile test id) scopes = append-nil scopes
one_has (shapes.For init test update id) scopes = append-nil scopes
one_has (shapes.IfAlone test id) scopes = append-nil scopes
one_has _ scopes = refl

pub two_have : (shape : TwoBlocks) (xs ys : List ScopeId) → of_two scope_parts shape xs ys ≡ xs ++ ys
two_have (shapes.IfElse test id) xs ys = refl
two_have (shapes.Try binding id) xs ys = refl

module _ {S : Type 0} (rules : Rules S) (scope : S → ReactiveScopeBlock → Rebuilds S (List ReactiveStatement)) where
  -- the rules with another one for scope blocks
  abbrev others : Rules S
  others = record rules { scope = scope }

  abbrev claims : TreeClaims
  claims = record {
    Block = λ x. scopes_in x ≡ [] → (s : S) → rebuilt_block rules x s ≡ rebuilt_block others x s;
    Statements = λ xs. collected_list scope_parts xs ≡ [] → (s : S)
        → joined (map (rebuilt_statement rules) xs) s ≡ joined (map (rebuilt_statement others) xs) s;
    Statement = λ x. collected_statement scope_parts x ≡ [] → (s : S)
        → rebuilt_statement rules x s ≡ rebuilt_statement others x s;
    Terminal = λ x. collected_terminal scope_parts x ≡ [] → (s : S)
        → rebuilt_terminal rules x s ≡ rebuilt_terminal others x s;
    Case = λ x. (id : EvaluationOrder) → collected_case scope_parts x id ≡ [] → (s : S)
        → rebuilt_case rules x s ≡ rebuilt_case others x s;
    Cases = λ xs. (id : EvaluationOrder) → collected_cases scope_parts id xs ≡ [] → (s : S)
        → in_order (map (rebuilt_case rules) xs) s ≡ in_order (map (rebuilt_case others) xs) s;
  }

  inductive : IsInductive claims
  inductive = record {
    none = λ e s. refl;
    more = λ x xs k l e s i.
        bind (k (left_none _ _ e) s i) (λ a. bind (l (right_none _ _ e) a.0 i) (λ b. Ok (b.0, a.1 ++ b.1)));
    block = λ xs k e s.
        let x : ReactiveBlock = record { statements = xs } in
        rebuilt-block rules x s ∙ (λ i. bind (k (sym (collected-block scope_parts x) ∙ e) s i)
        (λ a. bind (rules.block a.1 a.0) (λ b. Ok (b.0, record { statements = b.1 }))))
        ∙ sym (rebuilt-block others x s);
    row = λ x e s. rebuilt-Instruction rules x s ∙ sym (rebuilt-Instruction others x s);
    terminal = λ x k e s. rebuilt-Terminal rules x s
        ∙ ap (λ inside. bind inside (λ a. rules.terminal a.1 a.0)) (rebuilt-labeled rules x s
        ∙ (λ i. bind (k (sym (collected-Terminal scope_parts x) ∙ e) s i)
        (λ a. Ok (a.0, record { terminal = a.1; label = x.label }))) ∙ sym (rebuilt-labeled others x s))
        ∙ sym (rebuilt-Terminal others x s);
    scope = λ x k e. absurd (not_none (scopes_in x.instructions) x.scope (sym (collected-Scope scope_parts x) ∙ e));
    pruned_scope = λ x k e s. rebuilt-PrunedScope rules x s
        ∙ ap (λ inside. bind inside (λ a. rules.pruned_scope a.1 a.0)) (rebuilt-pruned_scope rules x s
        ∙ (λ i. bind (k (sym (collected-PrunedScope scope_parts x) ∙ e) s i)
        (λ a. Ok (a.0, record { scope = x.scope; instructions = a.1 }))) ∙ sym (rebuilt-pruned_scope others x s))
        ∙ sym (rebuilt-PrunedScope others x s);
    no_block = λ shape e s. rebuilt-leaf rules shape s ∙ sym (rebuilt-leaf others shape s);
    one_block = λ shape x k e s.
        let none = sym (collected-one scope_parts shape x ∙ one_has shape (scopes_in x)) ∙ e in
        rebuilt-one rules shape x s ∙ (λ i. bind (k none s i) (λ a. Ok (a.0, with_block shape a.1)))
        ∙ sym (rebuilt-one others shape x s);
    two_blocks = λ shape x y k l e s.
        let none = sym (collected-two scope_parts shape x y ∙ two_have shape (scopes_in x) (scopes_in y)) ∙ e in
        rebuilt-two rules shape x y s ∙ (λ i. bind (k (left_none _ _ none) s i)
        (λ a. bind (l (right_none _ _ none) a.0 i) (λ b. Ok (b.0, with_blocks shape a.1 b.1))))
        ∙ sym (rebuilt-two others shape x y s);
    switch = λ test xs id k e s. rebuilt-Switch rules test xs id s
        ∙ (λ i. bind (k id (sym (collected-Switch scope_parts test xs id) ∙ e) s i)
        (λ a. Ok (a.0, tree.Switch test a.1 id))) ∙ sym (rebuilt-Switch others test xs id s);
    empty_case = λ test id e s. opened_case rules (record { test = test; block = None }) s
        ∙ sym (opened_case others (record { test = test; block = None }) s);
    case = λ test x k id e s. opened_case rules (record { test = test; block = Some x }) s
        ∙ ap (λ inside. bind (bind {A = S × ReactiveBlock} {B = S × Option ReactiveBlock} inside
        (λ a. Ok (a.0, Some a.1))) (λ a. Ok (a.0, roll-ReactiveSwitchCase (record { test = test; block = a.1 }))))
        (k (sym (collected-case scope_parts test (Some x) id) ∙ e) s)
        ∙ sym (opened_case others (record { test = test; block = Some x }) s);
    no_cases = λ id e s. refl;
    more_cases = λ x xs k l id e s i.
        bind (k id (left_none _ _ e) s i) (λ a. bind (l id (right_none _ _ e) a.0 i) (λ b. Ok (b.0, a.1 ∷ b.1)));
  }

  pub rebuilt_alike : (x : ReactiveBlock) → scopes_in x ≡ [] → (s : S)
      → rebuilt_block rules x s ≡ rebuilt_block others x s
  rebuilt_alike = of_every_block claims inductive
