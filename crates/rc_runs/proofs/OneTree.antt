-- A graph spells at most one tree, and the tree's blocks are used in one order.
--
-- Two derivations with the same graph and context are compared. A terminal adds one case of `one_statement`, or of
-- `one_terminal` if it ends its list.
use Rattle.std.proofs.Common.{◌≡◌, List, ◌∷◌, ◌++◌, Option, None, Some, Bool, false, ◌||◌, refl, sym, ap, ◌∙◌}
use Rattle.std.proofs.Common.{subst}
use Rattle.rc_names.specs.Numbers.{BlockId}
use Rattle.rc_hir.specs.Model.{Case, Terminal, HirFunction, Environment}
use Rattle.rc_tree.specs.Model.{ReactiveFunction}
use Rattle.rc_runs.specs.declared.frames.Frame.{Frame}
use Rattle.rc_runs.specs.declared.frames.Frame.TheVariants as frame_kinds
use Rattle.rc_runs.specs.Graph.{Block}
use Rattle.rc_runs.specs.Frames.{is_jump_target}
use Rattle.rc_runs.specs.PlainTree.{Value, Statements, Statement, RowStatement}
use Rattle.rc_runs.specs.PlainTree.{Cases}
use Rattle.rc_runs.specs.TreeOf.{block_of}
use Rattle.rc_runs.specs.ListContext.{ListContext, inside, protected_by, marked}
use Rattle.rc_runs.specs.LoopParts.{LoopBlocks, LoopParts}
use Rattle.rc_runs.specs.SwitchCases.{kept_cases}
use Rattle.rc_runs.specs.ShortArms.{SpellsShortArm}
use Rattle.rc_runs.specs.ValueGrammar.{Nested, SpellsNested, sequence_value, ternary_value, logical_value}
use Rattle.rc_runs.specs.ValueGrammar.{optional_value}
use Rattle.rc_runs.specs.Fallthrough.{opens}
use Rattle.rc_runs.specs.Grammar.{SpellsBefore, no_value, some_value, SpellsList, SpellsTerminal, SpellsStatement}
use Rattle.rc_runs.specs.Grammar.{SpellsCases, SpellsTurns, SpellsRest, from_block, returns, throws, unreachable}
use Rattle.rc_runs.specs.Grammar.{breaks, continues, leaves_try, may_throw_last, may_throw, branch_arms, branch_break}
use Rattle.rc_runs.specs.Grammar.{and_rest, if_only, if_else, label_statement, try_statement, scope_statement}
use Rattle.rc_runs.specs.Grammar.{pruned_scope_statement, switch_statement, while_loop, do_while_loop, for_loop}
use Rattle.rc_runs.specs.Grammar.{for_of_loop, for_in_loop, no_cases, one_case, value_statement, turns, no_rest}
use Rattle.rc_runs.specs.Grammar.{has_rest}
use Rattle.rc_runs.specs.Spelled.{with_header, SpellsBody, Spells}
use Rattle.rc_runs.proofs.GraphLemmas.{one_held}
use Rattle.rc_runs.proofs.OneArm.{one_short_arm}
use Rattle.rc_runs.proofs.OneValue.{one_nested, one_going, one_test}

-- the same part and the same used blocks
abbrev pub Same : {A : Type 0} → A → List BlockId → A → List BlockId → Type 0
Same a a_used b b_used = (a ≡ b) × (a_used ≡ b_used)

-- the parts of a loop are the same one by one
same_parts : (a b : LoopParts) → a.before ≡ b.before → a.test ≡ b.test → a.body ≡ b.body → a ≡ b
same_parts a b before test body =
    ap (λ (v : Option Value). record { before = v; test = a.test; body = a.body }) before
    ∙ ap (λ (v : Value). record { before = b.before; test = v; body = a.body }) test
    ∙ ap (λ (v : Statements). record { before = b.before; test = b.test; body = v }) body

-- a statement that is the row of a value terminal
record IsRow (hir : HirFunction) (env : Environment) (terminal : Terminal) (context : ListContext) (opened : Bool)
    (fallthrough : BlockId) (statement : Statement) (used : List BlockId) : Type 0 where
  nested : Nested
  nested_used : List BlockId
  arm_used : List BlockId
  spelled : SpellsNested hir env context.handler terminal nested nested_used
  arm : SpellsShortArm hir env context.handler nested.fallthrough false nested.short None None arm_used
  is_opened : opened ≡ opens context.frames nested.fallthrough
  falls : fallthrough ≡ nested.fallthrough
  row : statement ≡ RowStatement nested.id (Some nested.answer) nested.value nested.span
  whole : used ≡ nested_used ++ arm_used

module _ {hir : HirFunction} {env : Environment} where
  -- a terminal's derivation at an equal block
  pub terminal_at : {context : ListContext} {rest : Statements} {used : List BlockId} {a b : Block} → b ≡ a
      → SpellsTerminal hir env b.terminal context rest used → SpellsTerminal hir env a.terminal context rest used
  terminal_at {context} {rest} {used} e d = subst (λ v. SpellsTerminal hir env v.terminal context rest used) e d

  -- a part's derivation, where the fallthrough is equally opened
  pub part_at : {key : BlockId} {part : Statements} {used : List BlockId} (frame : Frame) (context : ListContext)
      (a b : Bool) → b ≡ a → SpellsList hir env key (inside b frame context) part used
      → SpellsList hir env key (inside a frame context) part used
  part_at {key} {part} {used} frame context a b e d =
      subst (λ v. SpellsList hir env key (inside v frame context) part used) e d

  -- the same for a part that a handler protects
  pub protected_at : {key : BlockId} {part : Statements} {used : List BlockId} (handler : BlockId) (frame : Frame)
      (context : ListContext) (a b : Bool) → b ≡ a
      → SpellsList hir env key (protected_by handler (inside b frame context)) part used
      → SpellsList hir env key (protected_by handler (inside a frame context)) part used
  protected_at {key} {part} {used} handler frame context a b e d =
      subst (λ v. SpellsList hir env key (protected_by handler (inside v frame context)) part used) e d

  -- the derivation of the rest, for an equal fallthrough that is equally opened
  pub rest_at : {f g : BlockId} {context : ListContext} {rest : Statements} {used : List BlockId} {a b : Bool} → g ≡ f
      → b ≡ a → SpellsRest hir env b g context rest used → SpellsRest hir env a f context rest used
  rest_at {f} {g} {context} {rest} {used} {a} {b} h e d =
      subst (λ w. SpellsRest hir env a w context rest used) h
      (subst (λ v. SpellsRest hir env v g context rest used) e d)

  -- the derivation of the cases of a switch, where the same are kept and its fallthrough is equally opened
  pub cases_at : {parts : Cases} {used : List BlockId} (frame : Frame) (context : ListContext) (kept other : List Case)
      (a b : Bool) → other ≡ kept → b ≡ a → SpellsCases hir env other (marked (inside b frame context)) parts used
      → SpellsCases hir env kept (marked (inside a frame context)) parts used
  cases_at {parts} {used} frame context kept other a b k e d =
      subst (λ cases. SpellsCases hir env cases (marked (inside a frame context)) parts used) k
      (subst (λ v. SpellsCases hir env other (marked (inside v frame context)) parts used) e d)

  -- the row of a value terminal
  a_row : {terminal : Terminal} {context : ListContext} {opened : Bool} {nested : Nested}
      {nested_used arm_used used : List BlockId} → opened ≡ opens context.frames nested.fallthrough
      → SpellsNested hir env context.handler terminal nested nested_used
      → SpellsShortArm hir env context.handler nested.fallthrough false nested.short None None arm_used
      → used ≡ nested_used ++ arm_used
      → IsRow hir env terminal context opened nested.fallthrough
      (RowStatement nested.id (Some nested.answer) nested.value nested.span) used
  a_row {nested = nested} {nested_used} {arm_used} i n a u = record {
    nested = nested;
    nested_used = nested_used;
    arm_used = arm_used;
    spelled = n;
    arm = a;
    is_opened = i;
    falls = refl;
    row = refl;
    whole = u;
  }

  -- the statement of a value terminal is its row
  row_of : {terminal : Terminal} {context : ListContext} {opened : Bool} {fallthrough : BlockId} {statement : Statement}
      {used value_used : List BlockId} {handler : Option BlockId} {nested : Nested}
      → SpellsNested hir env handler terminal nested value_used
      → SpellsStatement hir env terminal context opened fallthrough statement used
      → IsRow hir env terminal context opened fallthrough statement used
  row_of (sequence_value d g) (value_statement i j n a u) = a_row i n a u
  row_of (ternary_value t c d g e h w) (value_statement i j n a u) = a_row i n a u
  row_of (logical_value t c d s e h w) (value_statement i j n a u) = a_row i n a u
  row_of (optional_value t c s d g w) (value_statement i j n a u) = a_row i n a u

  one_row : {terminal : Terminal} {context : ListContext} {o p : Bool} {f g : BlockId} {s t : Statement}
      {u v : List BlockId} → IsRow hir env terminal context o f s u → IsRow hir env terminal context p g t v
      → (o ≡ p) × (f ≡ g) × (s ≡ t) × (u ≡ v)
  one_row {context = context} a b =
      let same = one_nested a.spelled b.spelled in
      let back : b.nested ≡ a.nested = sym same.0 in
      let arm = one_short_arm a.arm
      (subst (λ (n : Nested). SpellsShortArm hir env context.handler n.fallthrough false n.short None None b.arm_used)
      back b.arm) in
      (cc, cc, cc, cc)

  -- the value before the test of a loop
  pub one_before : {blocks : LoopBlocks} {context : ListContext} {key : Option BlockId} {v w : Option Value}
      {a b : List BlockId} → SpellsBefore hir env blocks context key v a → SpellsBefore hir env blocks context key w b
      → (v ≡ w) × (a ≡ b)
  one_before no_value no_value = (refl, refl)
  one_before (some_value d) (some_value d') = let h = one_going d d' in (ap Some h.0, h.1)

  mutual
    pub one_list : {key : BlockId} {context : ListContext} {a b : Statements} {u v : List BlockId}
        → SpellsList hir env key context a u → SpellsList hir env key context b v → Same a u b v
    one_list (from_block {key = key} {block = p} found live d w) (from_block {block = q} found' live' d' w') =
        let same : q ≡ p = one_held found found' in
        let h = one_terminal d (terminal_at same d') in
        (cc, ap (λ used. key ∷ used) h.1)

    pub one_terminal : {terminal : Terminal} {context : ListContext} {a b : Statements} {u v : List BlockId}
        → SpellsTerminal hir env terminal context a u → SpellsTerminal hir env terminal context b v → Same a u b v
    one_terminal returns returns = (refl, refl)
    one_terminal (throws h) (throws h') = (refl, refl)
    one_terminal unreachable unreachable = (refl, refl)
    one_terminal (breaks e) (breaks f) = (one_held f e, refl)
    one_terminal (continues e) (continues f) = (one_held f e, refl)
    one_terminal (leaves_try n) (leaves_try n') = (refl, refl)
    one_terminal (may_throw_last h n) (may_throw_last h' n') = (refl, refl)
    one_terminal (may_throw h n d) (may_throw h' n' d') = one_list d d'
    one_terminal (may_throw_last h n) (may_throw h' n' d) = absurd (let bad : ⊥ = cc in bad)
    one_terminal (may_throw h n d) (may_throw_last h' n') = absurd (let bad : ⊥ = cc in bad)
    one_terminal (branch_arms d e w) (branch_arms d' e' w') =
        let h = one_list d d' in
        let k = one_list e e' in
        (cc, cc)
    one_terminal (branch_break t b e) (branch_break t' b' e') =
        let h = one_held b' b in
        let k = one_list e e' in
        (cc, k.1)
    one_terminal (branch_arms (from_block f live d w) e v) (branch_break t b e') = absurd (let bad : ⊥ = cc in bad)
    one_terminal (branch_break t b e') (branch_arms (from_block f live d w) e v) = absurd (let bad : ⊥ = cc in bad)
    one_terminal returns (and_rest (value_statement i j n a v) r w) = elim n [ ]
    one_terminal (throws h) (and_rest (value_statement i j n a v) r w) = elim n [ ]
    one_terminal unreachable (and_rest (value_statement i j n a v) r w) = elim n [ ]
    one_terminal (breaks e) (and_rest (value_statement i j n a v) r w) = elim n [ ]
    one_terminal (continues e) (and_rest (value_statement i j n a v) r w) = elim n [ ]
    one_terminal (leaves_try h) (and_rest (value_statement i j n a v) r w) = elim n [ ]
    one_terminal (may_throw_last x y) (and_rest (value_statement i j n a v) r w) = elim n [ ]
    one_terminal (may_throw x y z) (and_rest (value_statement i j n a v) r w) = elim n [ ]
    one_terminal (branch_arms x y z) (and_rest (value_statement i j n a v) r w) = elim n [ ]
    one_terminal (branch_break x y z) (and_rest (value_statement i j n a v) r w) = elim n [ ]
    one_terminal (and_rest (value_statement i j n a v) r w) returns = elim n [ ]
    one_terminal (and_rest (value_statement i j n a v) r w) (throws h) = elim n [ ]
    one_terminal (and_rest (value_statement i j n a v) r w) unreachable = elim n [ ]
    one_terminal (and_rest (value_statement i j n a v) r w) (breaks e) = elim n [ ]
    one_terminal (and_rest (value_statement i j n a v) r w) (continues e) = elim n [ ]
    one_terminal (and_rest (value_statement i j n a v) r w) (leaves_try h) = elim n [ ]
    one_terminal (and_rest (value_statement i j n a v) r w) (may_throw_last x y) = elim n [ ]
    one_terminal (and_rest (value_statement i j n a v) r w) (may_throw x y z) = elim n [ ]
    one_terminal (and_rest (value_statement i j n a v) r w) (branch_arms x y z) = elim n [ ]
    one_terminal (and_rest (value_statement i j n a v) r w) (branch_break x y z) = elim n [ ]
    one_terminal (and_rest d r w) (and_rest d' r' w') =
        let h = one_statement d d' in
        let k = one_rest r (rest_at (sym h.1) (sym h.0) r') in
        (cc, cc)

    -- the fallthrough, and whether it is opened, are the same too
    pub one_statement : {terminal : Terminal} {context : ListContext} {o p : Bool} {f g : BlockId} {s t : Statement}
        {u v : List BlockId} → SpellsStatement hir env terminal context o f s u
        → SpellsStatement hir env terminal context p g t v → (o ≡ p) × (f ≡ g) × (s ≡ t) × (u ≡ v)
    one_statement (value_statement i j n a u) d = one_row (a_row i n a u) (row_of n d)
    one_statement d (value_statement i j n a u) = one_row (row_of n d) (a_row i n a u)
    one_statement (if_only {fallthrough = f} {context = around} {opened = o} i l x y d)
        (if_only {opened = p} i' l' x' y' d') =
        let same : p ≡ o = i' ∙ sym i in
        let h = one_list d (part_at (frame_kinds.Statement f) around o p same d') in
        (sym same, refl, cc, h.1)
    one_statement (if_only i l x y d) (if_else i' l' x' d' a' w') = absurd (let bad : ⊥ = cc in bad)
    one_statement (if_else i l x d a w) (if_only i' l' x' y' d') = absurd (let bad : ⊥ = cc in bad)
    one_statement (if_else {fallthrough = f} {context = around} {opened = o} i l x d a w)
        (if_else {opened = p} i' l' x' d' a' w') =
        let same : p ≡ o = i' ∙ sym i in
        let h = one_list d (part_at (frame_kinds.Statement f) around o p same d') in
        let k = one_list a (part_at (frame_kinds.Statement f) around o p same a') in
        (sym same, refl, cc, cc)
    one_statement (label_statement {fallthrough = f} {context = around} {opened = o} i l d)
        (label_statement {opened = p} i' l' d') =
        let same : p ≡ o = i' ∙ sym i in
        let h = one_list d (part_at (frame_kinds.Statement f) around o p same d') in
        (sym same, refl, cc, h.1)
    one_statement (try_statement {handler = handler} {fallthrough = f} {context = around} {opened = o} i l d a w)
        (try_statement {opened = p} i' l' d' a' w') =
        let same : p ≡ o = i' ∙ sym i in
        let h = one_list d (protected_at handler (frame_kinds.Statement f) around o p same d') in
        let k = one_list a (part_at (frame_kinds.Statement f) around o p same a') in
        (sym same, refl, cc, cc)
    one_statement (scope_statement {fallthrough = f} {context = around} {opened = o} i d)
        (scope_statement {opened = p} i' d') =
        let same : p ≡ o = i' ∙ sym i in
        let h = one_list d (part_at (frame_kinds.Scope f) around o p same d') in
        (sym same, refl, cc, h.1)
    one_statement (pruned_scope_statement {fallthrough = f} {context = around} {opened = o} i d)
        (pruned_scope_statement {opened = p} i' d') =
        let same : p ≡ o = i' ∙ sym i in
        let h = one_list d (part_at (frame_kinds.Scope f) around o p same d') in
        (sym same, refl, cc, h.1)
    one_statement (switch_statement {cases = cases} {kept = kept} {fallthrough = f} {context = around} {opened = o} i l
        one past k z d) (switch_statement {kept = other} {opened = p} i' l' one' past' k' z' d') =
        let same : p ≡ o = i' ∙ sym i in
        let alike : other ≡ kept =
        k' ∙ ap (λ v. kept_cases (v || is_jump_target around.frames f) f cases) same ∙ sym k in
        let h = one_cases d (cases_at (frame_kinds.Switch f) around kept other o p alike same d') in
        (sym same, refl, cc, h.1)
    one_statement (while_loop h d) (while_loop h' d') =
        let k = one_turns d d' in
        (refl, refl, cc, k.1)
    one_statement (do_while_loop d) (do_while_loop d') =
        let k = one_turns d d' in
        (refl, refl, cc, k.1)
    one_statement (for_loop g d w) (for_loop g' d' w') =
        let h = one_going g g' in
        let k = one_turns d d' in
        (refl, refl, cc, cc)
    one_statement (for_of_loop e d) (for_of_loop e' d') =
        let k = one_turns d d' in
        (refl, refl, cc, k.1)
    one_statement (for_in_loop d) (for_in_loop d') =
        let k = one_turns d d' in
        (refl, refl, cc, k.1)

    pub one_cases : {cases : List Case} {context : ListContext} {a b : Cases} {u v : List BlockId}
        → SpellsCases hir env cases context a u → SpellsCases hir env cases context b v → Same a u b v
    one_cases no_cases no_cases = (refl, refl)
    one_cases (one_case d e w) (one_case d' e' w') =
        let h = one_cases d d' in
        let k = one_list e e' in
        (cc, cc)

    pub one_turns : {blocks : LoopBlocks} {context : ListContext} {a b : LoopParts} {u v : List BlockId}
        → SpellsTurns hir env blocks context a u → SpellsTurns hir env blocks context b v → Same a u b v
    one_turns (turns {parts = a} n m t e d w) (turns {parts = b} n' m' t' e' d' w') =
        let h = one_test t t' in
        let k = one_before e e' in
        let l = one_list d d' in
        (same_parts a b k.0 h.0 l.0, cc)

    pub one_rest : {o : Bool} {f : BlockId} {context : ListContext} {a b : Statements} {u v : List BlockId}
        → SpellsRest hir env o f context a u → SpellsRest hir env o f context b v → Same a u b v
    one_rest no_rest no_rest = (refl, refl)
    one_rest (has_rest d) (has_rest d') = one_list d d'

  -- a graph spells at most one list of statements
  pub spells_one_tree : {a b : Statements} → SpellsBody hir env a → SpellsBody hir env b → a ≡ b
  spells_one_tree d e = (one_list d.list e.list).0

  -- a graph spells at most one function
  pub spells_one_function : {f g : ReactiveFunction} → Spells hir env f → Spells hir env g → f ≡ g
  spells_one_function d e =
      d.whole ∙ ap (λ statements. with_header hir (block_of statements)) (spells_one_tree d.body e.body) ∙ sym e.whole
