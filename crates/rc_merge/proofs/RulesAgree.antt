-- Two passes whose rules agree rebuild a tree to the same one, where no scope has two scope blocks.
--
-- By induction over the tree. Each rule is asked to agree on states that are alike, and takes away or leaves scope
-- blocks.
use Rattle.std.proofs.Common.{◌≡◌, ◌≤◌, ◌∙◌, List, [], ◌∷◌, ◌++◌, Option, None, Some, Result, Ok, Err, arith, map, refl}
use Rattle.std.proofs.Common.{sym, ap, subst}
use Rattle.std.proofs.lemmas.List.{append-nil}
use Rattle.rc_hir.specs.Model.{Fault}
use Rattle.rc_names.specs.Numbers.{EvaluationOrder, ScopeId, times}
use Rattle.rc_tree.proofs.CollectedKeeps.{collected_list-append}
use Rattle.rc_tree.proofs.CollectedLemmas.{collected-block, collected-case, collected-Instruction, collected-Terminal}
use Rattle.rc_tree.proofs.CollectedLemmas.{collected-Scope, collected-PrunedScope, collected-Switch}
use Rattle.rc_tree.proofs.DistinctLemmas.{times-append}
use Rattle.rc_tree.proofs.JoiningLemmas.{lists_monoid}
use Rattle.rc_tree.proofs.RebuiltLemmas.{opened_case, rebuilt-block, rebuilt-labeled, rebuilt-scope}
use Rattle.rc_tree.proofs.RebuiltLemmas.{rebuilt-pruned_scope, rebuilt-Instruction, rebuilt-Terminal, rebuilt-Scope}
use Rattle.rc_tree.proofs.RebuiltLemmas.{rebuilt-PrunedScope, rebuilt-Switch}
use Rattle.rc_tree.proofs.TerminalShapes.{OneBlock, TwoBlocks, DoWhile, While, For, ForOf, ForIn, IfAlone, Label, IfElse}
use Rattle.rc_tree.proofs.TerminalShapes.{Try, leaf, of_one, of_two, with_block, with_blocks, collected-one, collected-two}
use Rattle.rc_tree.proofs.TerminalShapes.{rebuilt-leaf, rebuilt-one, rebuilt-two}
use Rattle.rc_tree.proofs.TreeInduction.{TreeClaims, IsInductive, of_every_block}
use Rattle.rc_tree.specs.Collected.{collected_case, collected_cases, collected_list, collected_statement}
use Rattle.rc_tree.specs.Collected.{collected_terminal}
use Rattle.rc_tree.specs.Rebuilt.{Rules, joined, in_order, rebuilt_block, rebuilt_case, rebuilt_statement}
use Rattle.rc_tree.specs.Rebuilt.{rebuilt_terminal}
use Rattle.rc_tree.specs.ScopesIn.{scope_parts, scopes_in}
use Rattle.rc_tree.specs.Step.{bind}
use Rattle.rc_tree.specs.Model.{PrunedReactiveScopeBlock, ReactiveBlock, ReactiveInstruction, ReactiveScopeBlock}
use Rattle.rc_tree.specs.Model.{ReactiveStatement, ReactiveTerminal, ReactiveTerminalStatement}
use Rattle.rc_tree.specs.declared.statement.ReactiveStatement.TheVariants as reactive
use Rattle.rc_tree.specs.declared.terminal.ReactiveSwitchCase.{ReactiveSwitchCase, roll-ReactiveSwitchCase}
use Rattle.rc_tree.specs.declared.terminal.ReactiveTerminal.TheVariants as tree

-- no scope is there twice
abbrev pub Once : List ScopeId → Type 0
Once scopes = (scope : ScopeId) → times scope scopes ≤ 1

-- no scope is there more often than before
abbrev pub AtMost : List ScopeId → List ScopeId → Type 0
AtMost after before = (scope : ScopeId) → times scope after ≤ times scope before

once_left : (x y : List ScopeId) → Once (x ++ y) → Once x
once_left x y once scope = let a = times-append scope x y in let b = once scope in omega (arith, a, b)

once_right : (x y : List ScopeId) → Once (x ++ y) → Once y
once_right x y once scope = let a = times-append scope x y in let b = once scope in omega (arith, a, b)

once_less : (after before : List ScopeId) → AtMost after before → Once before → Once after
once_less after before less once scope = let a = less scope in let b = once scope in omega (arith, a, b)

both_less : (x y x1 y1 : List ScopeId) → AtMost x1 x → AtMost y1 y → AtMost (x1 ++ y1) (x ++ y)
both_less x y x1 y1 f g scope =
    let a = times-append scope x y in
    let b = times-append scope x1 y1 in
    let c = f scope in
    let d = g scope in
    omega (arith, a, b, c, d)

less_by : (after before after1 before1 : List ScopeId) → after ≡ after1 → before ≡ before1 → AtMost after1 before1
    → AtMost after before
less_by after before after1 before1 e f less =
    subst (λ a. AtMost a before) (sym e) (subst (AtMost after1) (sym f) less)

-- of terminals, only the blocks have scope blocks
one_scopes : (shape : OneBlock) (x : List ScopeId) → of_one scope_parts shape x ≡ x
one_scopes (DoWhile test id) x = append-nil x
one_scopes (While test id) x = refl
one_scopes (For init test update id) x = append-nil x
one_scopes (ForOf init test span id) x = refl
one_scopes (ForIn init span id) x = refl
one_scopes (IfAlone test id) x = append-nil x
one_scopes (Label id) x = refl

two_scopes : (shape : TwoBlocks) (x y : List ScopeId) → of_two scope_parts shape x y ≡ x ++ y
two_scopes (IfElse test id) x y = refl
two_scopes (Try binding id) x y = refl

block_scopes : (shape : OneBlock) (x : ReactiveBlock)
    → collected_terminal scope_parts (with_block shape x) ≡ scopes_in x
block_scopes shape x = collected-one scope_parts shape x ∙ one_scopes shape (scopes_in x)

blocks_scopes : (shape : TwoBlocks) (x y : ReactiveBlock)
    → collected_terminal scope_parts (with_blocks shape x y) ≡ scopes_in x ++ scopes_in y
blocks_scopes shape x y = collected-two scope_parts shape x y ∙ two_scopes shape (scopes_in x) (scopes_in y)

abbrev list_scopes : List ReactiveStatement → List ScopeId
list_scopes = collected_list scope_parts

module _ {S T : Type 0} (first : Rules S) (second : Rules T) (AreAlike : S → T → Type 0) where
  -- both results are there, from states that are alike, and the same; they have no scope more often than before
  abbrev pub Agrees : {X : Type 0} → (X → List ScopeId) → List ScopeId → Result (S × X) Fault → Result (T × X) Fault
      → Type 0
  Agrees has before (Ok a) (Ok b) = AreAlike a.0 b.0 × (b.1 ≡ a.1) × AtMost (has a.1) before
  Agrees has before (Ok a) (Err fault) = ⊥
  Agrees has before (Err fault) e = Unit {0}

  -- the rules agree
  pub record RulesAgree : Type 0 where
    pub row : (x : ReactiveInstruction) (s : S) (t : T) → AreAlike s t
        → Agrees list_scopes [] (first.row x s) (second.row x t)
    pub terminal : (x : ReactiveTerminalStatement) (s : S) (t : T) → AreAlike s t
        → Agrees list_scopes (collected_terminal scope_parts x.terminal) (first.terminal x s) (second.terminal x t)
    pub pruned_scope : (x : PrunedReactiveScopeBlock) (s : S) (t : T) → AreAlike s t
        → Agrees list_scopes (scopes_in x.instructions) (first.pruned_scope x s) (second.pruned_scope x t)
    pub into_scope : (of : ScopeId) (s : S) (t : T) → AreAlike s t
        → AreAlike (first.into_scope of s) (second.into_scope of t)
    pub scope : (x : ReactiveScopeBlock) (met s : S) (met1 t : T) → AreAlike met met1 → AreAlike s t
        → Agrees list_scopes (scopes_in x.instructions ++ x.scope ∷ []) (first.scope met x s) (second.scope met1 x t)
    pub block : (xs : List ReactiveStatement) (s : S) (t : T) → AreAlike s t → Once (list_scopes xs)
        → Agrees list_scopes (list_scopes xs) (first.block xs s) (second.block xs t)

  module _ (agree : RulesAgree) where
    -- one step after another
    chain : {X Y : Type 0} (has : X → List ScopeId) (last : Y → List ScopeId) (before whole : List ScopeId)
        (e : Result (S × X) Fault) (f : Result (T × X) Fault) (k : S × X → Result (S × Y) Fault)
        (l : T × X → Result (T × Y) Fault) → Agrees has before e f
        → ((s : S) (t : T) (y : X) → AreAlike s t → AtMost (has y) before → Agrees last whole (k (s, y)) (l (t, y)))
        → Agrees last whole (bind e k) (bind f l)
    chain has last before whole (Ok a) (Ok b) k l h next =
        subst (λ y. Agrees last whole (k a) (l (b.0, y))) (sym h.1) (next a.0 b.0 a.1 h.0 h.2)
    chain has last before whole (Ok a) (Err fault) k l h next = absurd h
    chain has last before whole (Err fault) f k l h next = tt

    -- by equal results, and by what was there before
    moved : {X : Type 0} (has : X → List ScopeId) (before before1 : List ScopeId) (e e1 : Result (S × X) Fault)
        (f f1 : Result (T × X) Fault) → before ≡ before1 → e ≡ e1 → f ≡ f1 → Agrees has before1 e1 f1
        → Agrees has before e f
    moved has before before1 e e1 f f1 b p q h =
        subst (λ z. Agrees has z e f) (sym b) (subst (λ z. Agrees has before1 z f) (sym p)
        (subst (λ z. Agrees has before1 e1 z) (sym q) h))

    fewer : {X : Type 0} (has : X → List ScopeId) (before before1 : List ScopeId) (e : Result (S × X) Fault)
        (f : Result (T × X) Fault) → AtMost before1 before → Agrees has before1 e f → Agrees has before e f
    fewer has before before1 (Ok a) (Ok b) less h =
        (h.0, h.1, λ scope. let c = h.2 scope in let d = less scope in omega (arith, c, d))
    fewer has before before1 (Ok a) (Err fault) less h = absurd h
    fewer has before before1 (Err fault) f less h = tt

    -- from any states that are alike, where no scope is there twice
    abbrev Alike : {X : Type 0} → (X → List ScopeId) → List ScopeId → (S → Result (S × X) Fault)
        → (T → Result (T × X) Fault) → Type 0
    Alike has before e f = (s : S) (t : T) → AreAlike s t → Once before → Agrees has before (e s) (f t)

    abbrev claims : TreeClaims
    claims = record {
      Block = λ x. Alike scopes_in (scopes_in x) (rebuilt_block first x) (rebuilt_block second x);
      Statements = λ xs. Alike list_scopes (list_scopes xs) (joined (map (rebuilt_statement first) xs))
          (joined (map (rebuilt_statement second) xs));
      Statement = λ x. Alike list_scopes (collected_statement scope_parts x) (rebuilt_statement first x)
          (rebuilt_statement second x);
      Terminal = λ x. Alike (collected_terminal scope_parts) (collected_terminal scope_parts x)
          (rebuilt_terminal first x) (rebuilt_terminal second x);
      Case = λ x. (id : EvaluationOrder) → Alike (λ y. collected_case scope_parts y id)
          (collected_case scope_parts x id) (rebuilt_case first x) (rebuilt_case second x);
      Cases = λ xs. (id : EvaluationOrder) → Alike (collected_cases scope_parts id)
          (collected_cases scope_parts id xs) (in_order (map (rebuilt_case first) xs))
          (in_order (map (rebuilt_case second) xs));
    }

    inductive : IsInductive claims
    inductive = record {
      none = λ s t alike once. (alike, refl, λ scope. omega arith);
      more = λ x xs k l s t alike once.
          let here = collected_statement scope_parts x in
          chain list_scopes list_scopes here (here ++ list_scopes xs) (rebuilt_statement first x s)
          (rebuilt_statement second x t) _ _ (k s t alike (once_left here (list_scopes xs) once))
          (λ s1 t1 ys alike1 less. chain list_scopes list_scopes (list_scopes xs) (here ++ list_scopes xs)
          (joined (map (rebuilt_statement first) xs) s1) (joined (map (rebuilt_statement second) xs) t1) _ _
          (l s1 t1 alike1 (once_right here (list_scopes xs) once))
          (λ s2 t2 zs alike2 less2. (
            alike2,
            refl,
            less_by (list_scopes (ys ++ zs)) (here ++ list_scopes xs) (list_scopes ys ++ list_scopes zs)
                (here ++ list_scopes xs) (collected_list-append scope_parts lists_monoid ys zs) refl
                (both_less here (list_scopes xs) (list_scopes ys) (list_scopes zs) less less2),
          )));
      block = λ xs k s t alike once.
          let x : ReactiveBlock = record { statements = xs } in
          let same = collected-block scope_parts x in
          moved scopes_in (scopes_in x) (list_scopes xs) (rebuilt_block first x s) _ (rebuilt_block second x t) _ same
          (rebuilt-block first x s) (rebuilt-block second x t)
          (chain list_scopes scopes_in (list_scopes xs) (list_scopes xs) (joined (map (rebuilt_statement first) xs) s)
          (joined (map (rebuilt_statement second) xs) t) _ _ (k s t alike (subst Once same once))
          (λ s1 t1 ys alike1 less. chain list_scopes scopes_in (list_scopes ys) (list_scopes xs) (first.block ys s1)
          (second.block ys t1) _ _
          (agree.block ys s1 t1 alike1 (once_less (list_scopes ys) (list_scopes xs) less (subst Once same once)))
          (λ s2 t2 zs alike2 less2. (
            alike2,
            refl,
            less_by (scopes_in (record { statements = zs })) (list_scopes xs) (list_scopes zs) (list_scopes xs)
                (collected-block scope_parts (record { statements = zs })) refl
                (λ scope. let c = less scope in let d = less2 scope in omega (arith, c, d)),
          ))));
      row = λ x s t alike once. moved list_scopes (collected_statement scope_parts (reactive.Instruction x)) []
          (rebuilt_statement first (reactive.Instruction x) s) (first.row x s)
          (rebuilt_statement second (reactive.Instruction x) t) (second.row x t)
          (collected-Instruction scope_parts x) (rebuilt-Instruction first x s) (rebuilt-Instruction second x t)
          (agree.row x s t alike);
      terminal = λ x k s t alike once.
          let inside = collected_terminal scope_parts x.terminal in
          let labeled : ReactiveTerminal → ReactiveTerminalStatement = λ y. record { terminal = y; label = x.label } in
          moved list_scopes (collected_statement scope_parts (reactive.Terminal x)) inside
          (rebuilt_statement first (reactive.Terminal x) s)
          (bind (rebuilt_terminal first x.terminal s) (λ c. first.terminal (labeled c.1) c.0))
          (rebuilt_statement second (reactive.Terminal x) t)
          (bind (rebuilt_terminal second x.terminal t) (λ c. second.terminal (labeled c.1) c.0))
          (collected-Terminal scope_parts x)
          (rebuilt-Terminal first x s ∙ ap (λ e. bind e (λ c. first.terminal c.1 c.0)) (rebuilt-labeled first x s)
          ∙ again labeled first.terminal (rebuilt_terminal first x.terminal s))
          (rebuilt-Terminal second x t ∙ ap (λ e. bind e (λ c. second.terminal c.1 c.0)) (rebuilt-labeled second x t)
          ∙ again labeled second.terminal (rebuilt_terminal second x.terminal t))
          (chain (collected_terminal scope_parts) list_scopes inside inside (rebuilt_terminal first x.terminal s)
          (rebuilt_terminal second x.terminal t) _ _
          (k s t alike (subst Once (collected-Terminal scope_parts x) once))
          (λ s1 t1 y alike1 less. fewer list_scopes inside (collected_terminal scope_parts y)
          (first.terminal (labeled y) s1) (second.terminal (labeled y) t1) less
          (agree.terminal (labeled y) s1 t1 alike1)));
      scope = λ x k s t alike once.
          let inside = scopes_in x.instructions in
          let around : ReactiveBlock → ReactiveScopeBlock = λ y. record { scope = x.scope; instructions = y } in
          let s0 = first.into_scope x.scope s in
          let t0 = second.into_scope x.scope t in
          moved list_scopes (collected_statement scope_parts (reactive.Scope x)) (inside ++ x.scope ∷ [])
          (rebuilt_statement first (reactive.Scope x) s)
          (bind (rebuilt_block first x.instructions s0) (λ c. first.scope s (around c.1) c.0))
          (rebuilt_statement second (reactive.Scope x) t)
          (bind (rebuilt_block second x.instructions t0) (λ c. second.scope t (around c.1) c.0))
          (collected-Scope scope_parts x)
          (rebuilt-Scope first x s ∙ ap (λ e. bind e (λ c. first.scope s c.1 c.0)) (rebuilt-scope first x s)
          ∙ again around (first.scope s) (rebuilt_block first x.instructions s0))
          (rebuilt-Scope second x t ∙ ap (λ e. bind e (λ c. second.scope t c.1 c.0)) (rebuilt-scope second x t)
          ∙ again around (second.scope t) (rebuilt_block second x.instructions t0))
          (chain scopes_in list_scopes inside (inside ++ x.scope ∷ []) (rebuilt_block first x.instructions s0)
          (rebuilt_block second x.instructions t0) _ _
          (k s0 t0 (agree.into_scope x.scope s t alike)
          (once_left inside (x.scope ∷ []) (subst Once (collected-Scope scope_parts x) once)))
          (λ s1 t1 y alike1 less. fewer list_scopes (inside ++ x.scope ∷ []) (scopes_in y ++ x.scope ∷ [])
          (first.scope s (around y) s1) (second.scope t (around y) t1)
          (both_less inside (x.scope ∷ []) (scopes_in y) (x.scope ∷ []) less (λ scope. omega arith))
          (agree.scope (around y) s s1 t t1 alike alike1)));
      pruned_scope = λ x k s t alike once.
          let inside = scopes_in x.instructions in
          let around : ReactiveBlock → PrunedReactiveScopeBlock = λ y. record { scope = x.scope; instructions = y } in
          moved list_scopes (collected_statement scope_parts (reactive.PrunedScope x)) inside
          (rebuilt_statement first (reactive.PrunedScope x) s)
          (bind (rebuilt_block first x.instructions s) (λ c. first.pruned_scope (around c.1) c.0))
          (rebuilt_statement second (reactive.PrunedScope x) t)
          (bind (rebuilt_block second x.instructions t) (λ c. second.pruned_scope (around c.1) c.0))
          (collected-PrunedScope scope_parts x)
          (rebuilt-PrunedScope first x s ∙ ap (λ e. bind e (λ c. first.pruned_scope c.1 c.0))
          (rebuilt-pruned_scope first x s) ∙ again around first.pruned_scope (rebuilt_block first x.instructions s))
          (rebuilt-PrunedScope second x t ∙ ap (λ e. bind e (λ c. second.pruned_scope c.1 c.0))
          (rebuilt-pruned_scope second x t) ∙ again around second.pruned_scope (rebuilt_block second x.instructions t))
          (chain scopes_in list_scopes inside inside (rebuilt_block first x.instructions s)
          (rebuilt_block second x.instructions t) _ _
          (k s t alike (subst Once (collected-PrunedScope scope_parts x) once))
          (λ s1 t1 y alike1 less. fewer list_scopes inside (scopes_in y) (first.pruned_scope (around y) s1)
          (second.pruned_scope (around y) t1) less (agree.pruned_scope (around y) s1 t1 alike1)));
      no_block = λ shape s t alike once.
          let here = collected_terminal scope_parts (leaf shape) in
          moved (collected_terminal scope_parts) here here (rebuilt_terminal first (leaf shape) s) (Ok (s, leaf shape))
          (rebuilt_terminal second (leaf shape) t) (Ok (t, leaf shape)) refl (rebuilt-leaf first shape s)
          (rebuilt-leaf second shape t) (alike, refl, λ scope. omega arith);
      one_block = λ shape x k s t alike once.
          moved (collected_terminal scope_parts) (collected_terminal scope_parts (with_block shape x)) (scopes_in x)
          (rebuilt_terminal first (with_block shape x) s)
          (bind (rebuilt_block first x s) (λ c. Ok (c.0, with_block shape c.1)))
          (rebuilt_terminal second (with_block shape x) t)
          (bind (rebuilt_block second x t) (λ c. Ok (c.0, with_block shape c.1)))
          (block_scopes shape x) (rebuilt-one first shape x s) (rebuilt-one second shape x t)
          (chain scopes_in (collected_terminal scope_parts) (scopes_in x) (scopes_in x) (rebuilt_block first x s)
          (rebuilt_block second x t) _ _ (k s t alike (subst Once (block_scopes shape x) once))
          (λ s1 t1 y alike1 less. (
            alike1,
            refl,
            less_by (collected_terminal scope_parts (with_block shape y)) (scopes_in x) (scopes_in y) (scopes_in x)
                (block_scopes shape y) refl less,
          )));
      two_blocks = λ shape x y k l s t alike once.
          let one = scopes_in x in
          let two = scopes_in y in
          let apart = subst Once (blocks_scopes shape x y) once in
          moved (collected_terminal scope_parts) (collected_terminal scope_parts (with_blocks shape x y)) (one ++ two)
          (rebuilt_terminal first (with_blocks shape x y) s) _ (rebuilt_terminal second (with_blocks shape x y) t) _
          (blocks_scopes shape x y) (rebuilt-two first shape x y s) (rebuilt-two second shape x y t)
          (chain scopes_in (collected_terminal scope_parts) one (one ++ two) (rebuilt_block first x s)
          (rebuilt_block second x t) _ _ (k s t alike (once_left one two apart))
          (λ s1 t1 x1 alike1 less. chain scopes_in (collected_terminal scope_parts) two (one ++ two)
          (rebuilt_block first y s1) (rebuilt_block second y t1) _ _ (l s1 t1 alike1 (once_right one two apart))
          (λ s2 t2 y1 alike2 less2. (
            alike2,
            refl,
            less_by (collected_terminal scope_parts (with_blocks shape x1 y1)) (one ++ two)
                (scopes_in x1 ++ scopes_in y1) (one ++ two) (blocks_scopes shape x1 y1) refl
                (both_less one two (scopes_in x1) (scopes_in y1) less less2),
          ))));
      switch = λ test xs id k s t alike once.
          let inside = collected_cases scope_parts id xs in
          moved (collected_terminal scope_parts) (collected_terminal scope_parts (tree.Switch test xs id)) inside
          (rebuilt_terminal first (tree.Switch test xs id) s) _ (rebuilt_terminal second (tree.Switch test xs id) t) _
          (collected-Switch scope_parts test xs id) (rebuilt-Switch first test xs id s)
          (rebuilt-Switch second test xs id t)
          (chain (collected_cases scope_parts id) (collected_terminal scope_parts) inside inside
          (in_order (map (rebuilt_case first) xs) s) (in_order (map (rebuilt_case second) xs) t) _ _
          (k id s t alike (subst Once (collected-Switch scope_parts test xs id) once))
          (λ s1 t1 ys alike1 less. (
            alike1,
            refl,
            less_by (collected_terminal scope_parts (tree.Switch test ys id)) inside (collected_cases scope_parts id ys)
                inside (collected-Switch scope_parts test ys id) refl less,
          )));
      empty_case = λ test id s t alike once.
          let x : ReactiveSwitchCase = roll-ReactiveSwitchCase (record { test = test; block = None }) in
          let here = collected_case scope_parts x id in
          moved (λ y. collected_case scope_parts y id) here here (rebuilt_case first x s) (Ok (s, x))
          (rebuilt_case second x t) (Ok (t, x)) refl (opened_case first (record { test = test; block = None }) s)
          (opened_case second (record { test = test; block = None }) t) (alike, refl, λ scope. omega arith);
      case = λ test x k id s t alike once.
          let of : ReactiveBlock → ReactiveSwitchCase = λ y.
          roll-ReactiveSwitchCase (record { test = test; block = Some y }) in
          moved (λ y. collected_case scope_parts y id) (collected_case scope_parts (of x) id) (scopes_in x)
          (rebuilt_case first (of x) s) (bind (rebuilt_block first x s) (λ c. Ok (c.0, of c.1)))
          (rebuilt_case second (of x) t) (bind (rebuilt_block second x t) (λ c. Ok (c.0, of c.1)))
          (collected-case scope_parts test (Some x) id)
          (opened_case first (record { test = test; block = Some x }) s
          ∙ of_some (λ y. roll-ReactiveSwitchCase (record { test = test; block = y })) (rebuilt_block first x s))
          (opened_case second (record { test = test; block = Some x }) t
          ∙ of_some (λ y. roll-ReactiveSwitchCase (record { test = test; block = y })) (rebuilt_block second x t))
          (chain scopes_in (λ y. collected_case scope_parts y id) (scopes_in x) (scopes_in x) (rebuilt_block first x s)
          (rebuilt_block second x t) _ _
          (k s t alike (subst Once (collected-case scope_parts test (Some x) id) once))
          (λ s1 t1 y alike1 less. (
            alike1,
            refl,
            less_by (collected_case scope_parts (of y) id) (scopes_in x) (scopes_in y) (scopes_in x)
                (collected-case scope_parts test (Some y) id) refl less,
          )));
      no_cases = λ id s t alike once. (alike, refl, λ scope. omega arith);
      more_cases = λ x xs k l id s t alike once.
          let here = collected_case scope_parts x id in
          let rest = collected_cases scope_parts id xs in
          chain (λ y. collected_case scope_parts y id) (collected_cases scope_parts id) here (here ++ rest)
          (rebuilt_case first x s) (rebuilt_case second x t) _ _ (k id s t alike (once_left here rest once))
          (λ s1 t1 y alike1 less. chain (collected_cases scope_parts id) (collected_cases scope_parts id) rest
          (here ++ rest) (in_order (map (rebuilt_case first) xs) s1) (in_order (map (rebuilt_case second) xs) t1) _ _
          (l id s1 t1 alike1 (once_right here rest once))
          (λ s2 t2 ys alike2 less2. (
            alike2,
            refl,
            both_less here rest (collected_case scope_parts y id) (collected_cases scope_parts id ys) less less2,
          )));
    }
      where
        again : {U X Y : Type 0} (make : X → Y) (rule : Y → U → Result (U × List ReactiveStatement) Fault)
            (e : Result (U × X) Fault) → bind (bind {B = U × Y} e (λ c. Ok (c.0, make c.1))) (λ c. rule c.1 c.0)
            ≡ bind e (λ c. rule (make c.1) c.0)
        again make rule (Ok c) = refl
        again make rule (Err fault) = refl

        of_some : {U X Y : Type 0} (make : Option X → Y) (e : Result (U × X) Fault)
            → bind (bind {B = U × Option X} e (λ c. Ok (c.0, Some c.1))) (λ c. Ok (c.0, make c.1))
            ≡ bind {B = U × Y} e (λ c. Ok (c.0, make (Some c.1)))
        of_some make (Ok c) = refl
        of_some make (Err fault) = refl

    -- so they rebuild each block to the same one
    pub rebuilt_agree : (x : ReactiveBlock) → Alike scopes_in (scopes_in x) (rebuilt_block first x) (rebuilt_block second x)
    rebuilt_agree = of_every_block claims inductive
