-- Rules that leave each statement but scope blocks leave a tree without scope blocks as it is.
use Rattle.std.proofs.Common.{◌≡◌, ◌∙◌, List, [], ◌∷◌, None, Some, map, Result, Ok, refl}
use Rattle.std.proofs.Common.{sym, ap}
use Rattle.rc_hir.specs.Model.{Fault}
use Rattle.rc_names.specs.Numbers.{EvaluationOrder}
use Rattle.rc_escape.proofs.ScopelessTrees.{left_none, not_none, one_has, right_none, two_have}
use Rattle.rc_tree.proofs.CollectedLemmas.{collected-block, collected-case, collected-Terminal, collected-Scope}
use Rattle.rc_tree.proofs.CollectedLemmas.{collected-PrunedScope, collected-Switch}
use Rattle.rc_tree.proofs.RebuiltLemmas.{opened_case, if_some, rebuilt-block, rebuilt-labeled, rebuilt-pruned_scope}
use Rattle.rc_tree.proofs.RebuiltLemmas.{rebuilt-Instruction, rebuilt-Terminal, rebuilt-PrunedScope, rebuilt-Switch}
use Rattle.rc_tree.proofs.TerminalShapes.{collected-one, collected-two, leaf}
use Rattle.rc_tree.proofs.TerminalShapes.{rebuilt-leaf, rebuilt-one, rebuilt-two, with_block, with_blocks}
use Rattle.rc_tree.proofs.TreeInduction.{IsInductive, TreeClaims, of_every_block}
use Rattle.rc_tree.specs.Collected.{collected_case, collected_cases, collected_list, collected_statement}
use Rattle.rc_tree.specs.Collected.{collected_terminal}
use Rattle.rc_tree.specs.Model.{PrunedReactiveScopeBlock, ReactiveBlock, ReactiveInstruction, ReactiveStatement}
use Rattle.rc_tree.specs.Model.{ReactiveTerminalStatement}
use Rattle.rc_tree.specs.Rebuilt.{Rules, in_order, joined, rebuilt_block, rebuilt_case, rebuilt_labeled}
use Rattle.rc_tree.specs.Rebuilt.{rebuilt_pruned_scope, rebuilt_statement, rebuilt_terminal}
use Rattle.rc_tree.specs.ScopesIn.{scope_parts, scopes_in}
use Rattle.rc_tree.specs.Step.{bind}
use Rattle.rc_tree.specs.declared.statement.ReactiveStatement.TheVariants as reactive
use Rattle.rc_tree.specs.declared.terminal.ReactiveTerminal.TheVariants as tree

module _ {S : Type 0} (IsKept : S → Type 0) where
  -- the part is left, and so is what holds of the state
  abbrev pub Leaves : {X : Type 0} → Result (S × X) Fault → X → Type 0
  Leaves {X} result x = (t : S) × (result ≡ Ok (t, x)) × IsKept t

  -- each rule leaves its statement, and the one for lists a list without scope blocks
  pub record LeavesRules (rules : Rules S) : Type 0 where
    pub row : (x : ReactiveInstruction) (s : S) → IsKept s → Leaves (rules.row x s) (reactive.Instruction x ∷ [])
    pub terminal : (x : ReactiveTerminalStatement) (s : S) → IsKept s
        → Leaves (rules.terminal x s) (reactive.Terminal x ∷ [])
    pub pruned_scope : (x : PrunedReactiveScopeBlock) (s : S) → IsKept s
        → Leaves (rules.pruned_scope x s) (reactive.PrunedScope x ∷ [])
    pub block : (xs : List ReactiveStatement) (s : S) → IsKept s → collected_list scope_parts xs ≡ []
        → Leaves (rules.block xs s) xs

  from : {X : Type 0} {result other : Result (S × X) Fault} {x : X} → result ≡ other → Leaves other x → Leaves result x
  from is (t, left, kept) = (t, is ∙ left, kept)

  -- a part and then the next one
  after : {X Y : Type 0} (result : Result (S × X) Fault) (next : S × X → Result (S × Y) Fault) (x : X) (y : Y)
      → Leaves result x → ((t : S) → IsKept t → Leaves (next (t, x)) y) → Leaves (bind result next) y
  after result next x y (t, left, kept) more = from (ap (λ r. bind r next) left) (more t kept)

module _ {S : Type 0} (IsKept : S → Type 0) (rules : Rules S) (leave : LeavesRules IsKept rules) where
  abbrev claims : TreeClaims
  claims = record {
    Block = λ x. scopes_in x ≡ [] → (s : S) → IsKept s → Leaves IsKept (rebuilt_block rules x s) x;
    Statements = λ xs. collected_list scope_parts xs ≡ [] → (s : S) → IsKept s
        → Leaves IsKept (joined (map (rebuilt_statement rules) xs) s) xs;
    Statement = λ x. collected_statement scope_parts x ≡ [] → (s : S) → IsKept s
        → Leaves IsKept (rebuilt_statement rules x s) (x ∷ []);
    Terminal = λ x. collected_terminal scope_parts x ≡ [] → (s : S) → IsKept s
        → Leaves IsKept (rebuilt_terminal rules x s) x;
    Case = λ x. (id : EvaluationOrder) → collected_case scope_parts x id ≡ [] → (s : S) → IsKept s
        → Leaves IsKept (rebuilt_case rules x s) x;
    Cases = λ xs. (id : EvaluationOrder) → collected_cases scope_parts id xs ≡ [] → (s : S) → IsKept s
        → Leaves IsKept (in_order (map (rebuilt_case rules) xs) s) xs;
  }

  inductive : IsInductive claims
  inductive = record {
    none = λ e s is. (s, refl, is);
    more = λ x xs k l e s is.
        after IsKept (rebuilt_statement rules x s) _ (x ∷ []) (x ∷ xs) (k (left_none _ _ e) s is)
        (λ t it. after IsKept (joined (map (rebuilt_statement rules) xs) t) _ xs (x ∷ xs) (l (right_none _ _ e) t it)
        (λ u at. (u, refl, at)));
    block = λ xs k e s is.
        let x : ReactiveBlock = record { statements = xs } in
        let none = sym (collected-block scope_parts x) ∙ e in
        from IsKept (rebuilt-block rules x s)
        (after IsKept (joined (map (rebuilt_statement rules) xs) s) _ xs x (k none s is)
        (λ t it. after IsKept (rules.block xs t) _ xs x (leave.block xs t it none) (λ u at. (u, refl, at))));
    row = λ x e s is. from IsKept (rebuilt-Instruction rules x s) (leave.row x s is);
    terminal = λ x k e s is. from IsKept (rebuilt-Terminal rules x s)
        (after IsKept (rebuilt_labeled rules x s) _ x (reactive.Terminal x ∷ [])
        (from IsKept (rebuilt-labeled rules x s) (after IsKept (rebuilt_terminal rules x.terminal s) _ x.terminal x
        (k (sym (collected-Terminal scope_parts x) ∙ e) s is) (λ t it. (t, refl, it)))) (leave.terminal x));
    scope = λ x k e. absurd (not_none (scopes_in x.instructions) x.scope (sym (collected-Scope scope_parts x) ∙ e));
    pruned_scope = λ x k e s is. from IsKept (rebuilt-PrunedScope rules x s)
        (after IsKept (rebuilt_pruned_scope rules x s) _ x (reactive.PrunedScope x ∷ [])
        (from IsKept (rebuilt-pruned_scope rules x s) (after IsKept (rebuilt_block rules x.instructions s) _ x.instructions
        x (k (sym (collected-PrunedScope scope_parts x) ∙ e) s is) (λ t it. (t, refl, it)))) (leave.pruned_scope x));
    no_block = λ shape e s is. from IsKept (rebuilt-leaf rules shape s) (s, refl, is);
    one_block = λ shape x k e s is.
        let none = sym (collected-one scope_parts shape x ∙ one_has shape (scopes_in x)) ∙ e in
        from IsKept (rebuilt-one rules shape x s) (after IsKept (rebuilt_block rules x s) _ x (with_block shape x)
        (k none s is) (λ t it. (t, refl, it)));
    two_blocks = λ shape x y k l e s is.
        let none = sym (collected-two scope_parts shape x y ∙ two_have shape (scopes_in x) (scopes_in y)) ∙ e in
        from IsKept (rebuilt-two rules shape x y s)
        (after IsKept (rebuilt_block rules x s) _ x (with_blocks shape x y) (k (left_none _ _ none) s is)
        (λ t it. after IsKept (rebuilt_block rules y t) _ y (with_blocks shape x y) (l (right_none _ _ none) t it)
        (λ u at. (u, refl, at))));
    switch = λ test xs id k e s is. from IsKept (rebuilt-Switch rules test xs id s)
        (after IsKept (in_order (map (rebuilt_case rules) xs) s) _ xs (tree.Switch test xs id)
        (k id (sym (collected-Switch scope_parts test xs id) ∙ e) s is) (λ t it. (t, refl, it)));
    empty_case = λ test id e s is.
        from IsKept (opened_case rules (record { test = test; block = None }) s) (s, refl, is);
    case = λ test x k id e s is. from IsKept (opened_case rules (record { test = test; block = Some x }) s)
        (after IsKept (if_some (rebuilt_block rules) (Some x) s) _ (Some x) _
        (after IsKept (rebuilt_block rules x s) _ x (Some x)
        (k (sym (collected-case scope_parts test (Some x) id) ∙ e) s is) (λ t it. (t, refl, it)))
        (λ t it. (t, refl, it)));
    no_cases = λ id e s is. (s, refl, is);
    more_cases = λ x xs k l id e s is.
        after IsKept (rebuilt_case rules x s) _ x (x ∷ xs) (k id (left_none _ _ e) s is)
        (λ t it. after IsKept (in_order (map (rebuilt_case rules) xs) t) _ xs (x ∷ xs) (l id (right_none _ _ e) t it)
        (λ u at. (u, refl, at)));
  }

  -- a tree without scope blocks is left as it is
  pub leaves_all : (x : ReactiveBlock) → scopes_in x ≡ [] → (s : S) → IsKept s
      → Leaves IsKept (rebuilt_block rules x s) x
  leaves_all = of_every_block claims inductive
