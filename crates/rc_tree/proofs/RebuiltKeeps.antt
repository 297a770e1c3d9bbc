-- Rules that keep a measure of their parts keep it for the whole tree.
use Rattle.std.proofs.Common.{◌≡◌, ◌∙◌, List, [], ◌∷◌, Option, None, Some, map, Result, Ok, Err, refl, sym, ap, subst}
use Rattle.std.specs.Prelude.{IfOk}
use Rattle.rc_hir.specs.Model.{Fault}
use Rattle.rc_tree.proofs.RebuiltLemmas.{opened_case, rebuilt-block, rebuilt-labeled, rebuilt-scope}
use Rattle.rc_tree.proofs.RebuiltLemmas.{rebuilt-pruned_scope, rebuilt-Instruction, rebuilt-Terminal, rebuilt-Scope}
use Rattle.rc_tree.proofs.RebuiltLemmas.{rebuilt-PrunedScope, rebuilt-Switch}
use Rattle.rc_tree.proofs.TerminalShapes.{leaf, rebuilt-leaf, rebuilt-one, rebuilt-two}
use Rattle.rc_tree.proofs.TreeInduction.{TreeClaims, IsInductive, of_every_block}
use Rattle.rc_tree.specs.Rebuilt.{Rules, joined, in_order, rebuilt_block, rebuilt_case, rebuilt_statement}
use Rattle.rc_tree.specs.Rebuilt.{rebuilt_terminal}
use Rattle.rc_tree.specs.Step.{bind}
use Rattle.rc_tree.proofs.Measures.{Measure, block, one, Compositional}
use Rattle.rc_tree.specs.Model.{PrunedReactiveScopeBlock, ReactiveScopeBlock, ReactiveBlock, ReactiveInstruction}
use Rattle.rc_tree.specs.Model.{ReactiveStatement, ReactiveTerminalStatement}
use Rattle.rc_tree.specs.declared.statement.ReactiveStatement.TheVariants as reactive
use Rattle.rc_tree.specs.declared.terminal.ReactiveSwitchCase.{ReactiveSwitchCase, roll-ReactiveSwitchCase}

-- what the rules give has the measure of what they are given
pub record RulesKeep {S L C P : Type 0} (m : Measure L C P) (rules : Rules S) : Type 0 where
  pub row : (x : ReactiveInstruction) (s : S)
      → IfOk (rules.row x s) (λ a. m.statements a.1 ≡ one m (reactive.Instruction x))
  pub terminal : (x : ReactiveTerminalStatement) (s : S)
      → IfOk (rules.terminal x s) (λ a. m.statements a.1 ≡ one m (reactive.Terminal x))
  pub pruned_scope : (x : PrunedReactiveScopeBlock) (s : S)
      → IfOk (rules.pruned_scope x s) (λ a. m.statements a.1 ≡ one m (reactive.PrunedScope x))
  pub scope : (met : S) (x : ReactiveScopeBlock) (s : S)
      → IfOk (rules.scope met x s) (λ a. m.statements a.1 ≡ one m (reactive.Scope x))
  pub block : (xs : List ReactiveStatement) (s : S)
      → IfOk (rules.block xs s) (λ a. m.statements a.1 ≡ m.statements xs)

-- a fact of a success of two steps, by an equal result
after_both : {A B : Type 0} (e : Result B Fault) (first : Result A Fault) (next : A → Result B Fault)
    (P : A → Type 0) (Q : B → Type 0) → e ≡ bind first next → IfOk first P → ((a : A) → P a → IfOk (next a) Q) → IfOk e Q
after_both e (Ok a) next P Q is h k = subst (λ r. IfOk r Q) (sym is) (k a h)
after_both e (Err fault) next P Q is h k = subst (λ r. IfOk r Q) (sym is) tt

if_weaker : {A : Type 0} (e : Result A Fault) (P Q : A → Type 0) → IfOk e P → ((a : A) → P a → Q a) → IfOk e Q
if_weaker (Ok a) P Q h k = k a h
if_weaker (Err fault) P Q h k = tt

module _ {S L C P : Type 0} (m : Measure L C P) (laws : Compositional m) (rules : Rules S)
    (keep : RulesKeep m rules) where
  abbrev claims : TreeClaims
  claims = record {
    Block = λ x. (s : S) → IfOk (rebuilt_block rules x s) (λ a. block m a.1 ≡ block m x);
    Statements = λ xs. (s : S)
        → IfOk (joined (map (rebuilt_statement rules) xs) s) (λ a. m.statements a.1 ≡ m.statements xs);
    Statement = λ x. (s : S) → IfOk (rebuilt_statement rules x s) (λ a. m.statements a.1 ≡ one m x);
    Terminal = λ x. (s : S) → IfOk (rebuilt_terminal rules x s) (λ a. m.terminal a.1 ≡ m.terminal x);
    Case = λ x. (s : S) → IfOk (rebuilt_case rules x s) (λ a. m.case a.1 ≡ m.case x);
    Cases = λ xs. (s : S) → IfOk (in_order (map (rebuilt_case rules) xs) s) (λ a. map m.case a.1 ≡ map m.case xs);
  }

  inductive : IsInductive claims
  inductive = record {
    none = λ s. refl;
    more = λ x xs k l s. after_both _ (rebuilt_statement rules x s) _ _ _ refl (k s)
        (λ a e. after_both _ (joined (map (rebuilt_statement rules) xs) a.0) _ _ _ refl (l a.0)
        (λ b f. laws.append (x ∷ []) a.1 xs b.1 e f));
    block = λ xs k s. after_both _ (joined (map (rebuilt_statement rules) xs) s) _ _ _
        (rebuilt-block rules (record { statements = xs }) s) (k s)
        (λ a e. after_both _ (rules.block a.1 a.0) _ _ _ refl (keep.block a.1 a.0) (λ b f. f ∙ e));
    row = λ x s. subst (λ r. IfOk r (λ a. m.statements a.1 ≡ one m (reactive.Instruction x)))
        (sym (rebuilt-Instruction rules x s)) (keep.row x s);
    terminal = λ x k s. after_both _ (rebuilt_terminal rules x.terminal s) _ _ _
        (rebuilt-Terminal rules x s ∙ ap (λ e. bind e (λ c. rules.terminal c.1 c.0)) (rebuilt-labeled rules x s)
        ∙ again (λ t. record { terminal = t; label = x.label }) rules.terminal (rebuilt_terminal rules x.terminal s))
        (k s) (λ a e. if_weaker (rules.terminal (record { terminal = a.1; label = x.label }) a.0) _ _
        (keep.terminal (record { terminal = a.1; label = x.label }) a.0) (λ b f. f ∙ laws.labeled x a.1 e));
    scope = λ x k s.
        let inner = rules.into_scope x.scope s in
        after_both _ (rebuilt_block rules x.instructions inner) _ _ _
        (rebuilt-Scope rules x s ∙ ap (λ e. bind e (λ c. rules.scope s c.1 c.0)) (rebuilt-scope rules x s)
        ∙ again (λ y. record { scope = x.scope; instructions = y }) (rules.scope s)
        (rebuilt_block rules x.instructions inner))
        (k inner) (λ a e. if_weaker (rules.scope s (record { scope = x.scope; instructions = a.1 }) a.0) _ _
        (keep.scope s (record { scope = x.scope; instructions = a.1 }) a.0) (λ b f. f ∙ laws.scope x a.1 e));
    pruned_scope = λ x k s. after_both _ (rebuilt_block rules x.instructions s) _ _ _
        (rebuilt-PrunedScope rules x s
        ∙ ap (λ e. bind e (λ c. rules.pruned_scope c.1 c.0)) (rebuilt-pruned_scope rules x s)
        ∙ again (λ y. record { scope = x.scope; instructions = y }) rules.pruned_scope
        (rebuilt_block rules x.instructions s))
        (k s) (λ a e. if_weaker (rules.pruned_scope (record { scope = x.scope; instructions = a.1 }) a.0) _ _
        (keep.pruned_scope (record { scope = x.scope; instructions = a.1 }) a.0)
        (λ b f. f ∙ laws.pruned_scope x a.1 e));
    no_block = λ shape s. subst (λ r. IfOk r (λ a. m.terminal a.1 ≡ m.terminal (leaf shape)))
        (sym (rebuilt-leaf rules shape s)) refl;
    one_block = λ shape x k s. after_both _ (rebuilt_block rules x s) _ _ _ (rebuilt-one rules shape x s) (k s)
        (λ a e. laws.one_block shape x a.1 e);
    two_blocks = λ shape x y k l s. after_both _ (rebuilt_block rules x s) _ _ _ (rebuilt-two rules shape x y s) (k s)
        (λ a e. after_both _ (rebuilt_block rules y a.0) _ _ _ refl (l a.0) (λ b f. laws.two_blocks shape x y a.1 b.1 e f));
    switch = λ test xs id k s. after_both _ (in_order (map (rebuilt_case rules) xs) s) _ _ _
        (rebuilt-Switch rules test xs id s) (k s) (λ a e. laws.switch test xs a.1 id e);
    empty_case = λ test s.
        let x : ReactiveSwitchCase = roll-ReactiveSwitchCase (record { test = test; block = None }) in
        subst (λ r. IfOk r (λ a. m.case a.1 ≡ m.case x))
        (sym (opened_case rules (record { test = test; block = None }) s)) refl;
    case = λ test x k s. after_both _ (rebuilt_block rules x s) _ _ _
        (opened_case rules (record { test = test; block = Some x }) s
        ∙ of_some (λ y. roll-ReactiveSwitchCase (record { test = test; block = y })) (rebuilt_block rules x s))
        (k s) (λ a e. laws.case test x a.1 e);
    no_cases = λ s. refl;
    more_cases = λ x xs k l s. after_both _ (rebuilt_case rules x s) _ _ _ refl (k s)
        (λ a e. after_both _ (in_order (map (rebuilt_case rules) xs) a.0) _ _ _ refl (l a.0)
        (λ b f. λ i. e i ∷ f i));
  }
    where
      again : {X Y : Type 0} (make : X → Y) (rule : Y → S → Result (S × List ReactiveStatement) Fault)
          (e : Result (S × X) Fault) → bind (bind {B = S × Y} e (λ c. Ok (c.0, make c.1))) (λ c. rule c.1 c.0)
          ≡ bind e (λ c. rule (make c.1) c.0)
      again make rule (Ok c) = refl
      again make rule (Err fault) = refl

      of_some : {X Y : Type 0} (make : Option X → Y) (e : Result (S × X) Fault)
          → bind (bind {B = S × Option X} e (λ c. Ok (c.0, Some c.1))) (λ c. Ok (c.0, make c.1))
          ≡ bind {B = S × Y} e (λ c. Ok (c.0, make (Some c.1)))
      of_some make (Ok c) = refl
      of_some make (Err fault) = refl

  -- the measure of a rebuilt block is that of the block
  pub rebuilt_keeps : (x : ReactiveBlock) (s : S) → IfOk (rebuilt_block rules x s) (λ a. block m a.1 ≡ block m x)
  rebuilt_keeps = of_every_block claims inductive
