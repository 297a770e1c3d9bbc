-- What a loop is: what runs before all turns, and its turns, in the statement of its kind.
use Rattle.std.proofs.Common.{◌≡◌, Bool, true, false, List, [], ◌∷◌, ◌++◌, ◌&&◌, ◌||◌, Option, Some, None, refl, sym}
use Rattle.std.proofs.Common.{ap, ◌∙◌, subst, arith, inl, inr}
use Rattle.std.proofs.lemmas.Bool.{false≢true}
use Rattle.std.specs.Prelude.{◌⊎◌, IsSome, is_some, option_map}
use Rattle.std.specs.Option.{option_to_list}
use Rattle.rc_names.specs.Numbers.{BlockId, same_id}
use Rattle.rc_hir.specs.Model.{HirFunction, Environment}
use Rattle.rc_hir.specs.declared.fault.Rule.TheVariants.{LoopLive}
use Rattle.rc_tree.specs.Model.{ReactiveStatement, ReactiveTerminal, ReactiveValue}
use Rattle.rc_tree.specs.declared.terminal.ReactiveTerminal.TheVariants as tree
use Rattle.rc_runs.specs.declared.frames.Frame.{Frame}
use Rattle.rc_runs.specs.Frames.{is_jump_target}
use Rattle.rc_runs.specs.Graph.{ends_unreachable}
use Rattle.rc_runs.specs.ListContext.{ListContext}
use Rattle.rc_runs.specs.LoopParts.{LoopBlocks, LoopParts, turn_start}
use Rattle.rc_runs.specs.PlainTree.{Value, Statements, TreeTerminal, TerminalStatement, While, DoWhile, For, ForOf}
use Rattle.rc_runs.specs.PlainTree.{ForIn}
use Rattle.rc_runs.specs.TreeOf.{value_of, statements_of}
use Rattle.rc_runs.specs.TreeOf as plain
use Rattle.rc_runs.specs.Fallthrough.{label_of}
use Rattle.rc_runs.specs.Grammar.{value_statement, SpellsBefore, SpellsStatement, SpellsTerminal, SpellsTurns, and_rest}
use Rattle.rc_runs.specs.Grammar.{no_value, some_value, turns, while_loop, do_while_loop, for_loop, for_of_loop}
use Rattle.rc_runs.specs.Grammar.{for_in_loop}
use Rattle.rc_runs.proofs.OneTree.{one_before}
use Rattle.rc_build.specs.declared.builder.Marks.{Marks}
use Rattle.rc_build.specs.declared.loops.LoopKind.{LoopKind}
use Rattle.rc_build.specs.declared.loops.LoopKind.TheVariants as kinds
use Rattle.rc_build.specs.declared.loops.LoopTerminal.{LoopTerminal}
use Rattle.rc_build.specs.declared.loops.TurnValues.{TurnValues}
use Rattle.rc_build.specs.References.{fallthrough_of, is_while, turn_block}
use Rattle.rc_build.specs.BlockFacts.{IsFramedApart}
use Rattle.rc_build.specs.RuleFacts.{RuleFact}
use Rattle.rc_build.specs.inside.CanBuild.{CanBuildTerminal}
use Rattle.rc_build.specs.inside.LoopKinds.{blocks_of, blocks_with, init_of, is_flat, is_while_kind}
use Rattle.rc_build.specs.inside.LoopKinds.{terminal_of, terminal_with, value_blocks}
use Rattle.rc_build.specs.inside.Loops.{SpellsInit, SpellsTurnsOf, TurnsBuilt, tree_of, tree_with, values_of}
use Rattle.rc_build.specs.inside.Setting.{Setting, label_at, terminal_statement}
use Rattle.rc_build.specs.inside.Task.{FromTerminal, Progress, Spells, left}
use Rattle.rc_build.specs.inside.Built.{BuiltPart, BuiltPrefix, Refused}
use Rattle.rc_build.proofs.BuiltLemmas.{marking_beside, marking_more, marking_then, refused_back, refused_front}
use Rattle.rc_build.proofs.BuiltLemmas.{statement_prefix}
use Rattle.rc_build.proofs.LoopKindLemmas.{falls_with, parts_le, starts_with, while_with}
use Rattle.rc_build.proofs.MarksLemmas.{times_append}
use Rattle.rc_build.proofs.StatementLemmas.{target_apart}

-- the tests of a loop's blocks, taken apart
live_parts : (falls starts whiles ends : Bool) → (falls || (starts || (whiles && ends))) ≡ true
    → (falls ≡ true) ⊎ ((starts ≡ true) ⊎ ((whiles ≡ true) × (ends ≡ true)))
live_parts true starts whiles ends e = inl refl
live_parts false true whiles ends e = inr (inl refl)
live_parts false false true ends e = inr (inr (refl, e))
live_parts false false false ends e = let bad : ⊥ = cc in absurd bad

live_none : (falls starts whiles ends : Bool) → (falls || (starts || (whiles && ends))) ≡ false
    → (falls ≡ false) × (starts ≡ false) × (whiles ≡ true → ends ≡ false)
live_none true starts whiles ends e = let bad : ⊥ = cc in absurd bad
live_none false true whiles ends e = let bad : ⊥ = cc in absurd bad
live_none false false true ends e = (refl, refl, λ h. e)
live_none false false false ends e = (refl, refl, λ h. let bad : ⊥ = cc in absurd bad)

-- the loop's fallthrough or the block with which its turns begin is a jump target, or a while leads nowhere
abbrev pub is_live : HirFunction → List Frame → LoopTerminal → Bool
is_live hir frames t = is_jump_target frames t.fallthrough || (is_jump_target frames (turn_start (blocks_of t))
    || (is_while_kind t.kind && ends_unreachable hir t.fallthrough))

-- in which of these ways a loop is live
abbrev LiveWays : HirFunction → List Frame → LoopTerminal → Type 0
LiveWays hir frames t = (is_jump_target frames t.fallthrough ≡ true)
    ⊎ ((is_jump_target frames (turn_start (blocks_of t)) ≡ true)
    ⊎ ((is_while_kind t.kind ≡ true) × (ends_unreachable hir t.fallthrough ≡ true)))

live_ways : (hir : HirFunction) (frames : List Frame) (t : LoopTerminal) → is_live hir frames t ≡ true
    → LiveWays hir frames t
live_ways hir frames t e = live_parts (is_jump_target frames t.fallthrough)
    (is_jump_target frames (turn_start (blocks_of t))) (is_while_kind t.kind) (ends_unreachable hir t.fallthrough) e

pub not_live : (s : Setting) (t : LoopTerminal) → is_live s.hir s.context.frames t ≡ false
    → (is_jump_target s.context.frames t.fallthrough ≡ false)
    × (is_jump_target s.context.frames (turn_start (blocks_of t)) ≡ false)
    × (is_while_kind t.kind ≡ true → ends_unreachable s.hir t.fallthrough ≡ false)
not_live s t e = live_none (is_jump_target s.context.frames t.fallthrough)
    (is_jump_target s.context.frames (turn_start (blocks_of t))) (is_while_kind t.kind)
    (ends_unreachable s.hir t.fallthrough) e

-- such a loop's block breaks the rule
pub live_fact : {hir : HirFunction} {marks : Marks} {handler : Option BlockId} {frames : List Frame} {key : BlockId}
    (t : LoopTerminal)
    → CanBuildTerminal hir marks handler frames key (terminal_of t) → is_live hir frames t ≡ true
    → RuleFact hir LoopLive key
live_fact {hir} {frames = frames} {key = key} t can live = record {
  block = can.here.block;
  found = can.here.found;
  holds = record {
    fallthrough = t.fallthrough;
    start = turn_start (blocks_of t);
    falls = ap fallthrough_of can.here.holds ∙ falls_with t t.kind;
    starts = ap turn_block can.here.holds ∙ starts_with t t.kind;
    bad = go (live_ways hir frames t live);
  };
}
  where
    go : LiveWays hir frames t
        → IsFramedApart hir key t.fallthrough ⊎ (IsFramedApart hir key (turn_start (blocks_of t))
        ⊎ ((same_id t.fallthrough (turn_start (blocks_of t)) ≡ true) ⊎ ((is_while can.here.block.terminal ≡ true)
        × (ends_unreachable hir t.fallthrough ≡ true))))
    go (inl target) = inl (target_apart can target)
    go (inr (inl target)) = inr (inl (target_apart can target))
    go (inr (inr ends)) = inr (inr (inr (ap is_while can.here.holds ∙ while_with t t.kind ends.0, ends.1)))

-- a loop that is spelled: what runs before all turns, its turns, and what follows it
record IsLoopSpelled (s : Setting) (kind : LoopKind) (t : LoopTerminal) (used : List BlockId) : Type 0 where
  init : Option Value
  parts : LoopParts
  init_used : List BlockId
  turns_used : List BlockId
  rest_used : List BlockId
  reached : is_while_kind kind ≡ true → ends_unreachable s.hir t.fallthrough ≡ false
  init_spelled : SpellsBefore s.hir s.env (blocks_with kind true t) s.context (init_of kind) init init_used
  turns_spelled : SpellsTurns s.hir s.env (blocks_with kind (is_flat kind) t) s.context parts turns_used
  whole : used ≡ (init_used ++ turns_used) ++ rest_used

module _ {s : Setting} {t : LoopTerminal} where
  -- nothing runs before all turns
  without_init : {kind : LoopKind} {parts : LoopParts} {used front : List BlockId}
      (back : List BlockId)
      → SpellsBefore s.hir s.env (blocks_with kind true t) s.context (init_of kind) None []
      → (is_while_kind kind ≡ true → ends_unreachable s.hir t.fallthrough ≡ false)
      → SpellsTurns s.hir s.env (blocks_with kind (is_flat kind) t) s.context parts front → used ≡ front ++ back
      → IsLoopSpelled s kind t used
  without_init {parts = parts} {front = front} back before e d w = record {
    init = None;
    parts = parts;
    init_used = [];
    turns_used = front;
    rest_used = back;
    reached = e;
    init_spelled = before;
    turns_spelled = d;
    whole = w;
  }

  loop_parts : (kind : LoopKind) {all : Statements} {used : List BlockId}
      → SpellsTerminal s.hir s.env (terminal_with kind t) s.context all used → IsLoopSpelled s kind t used
  loop_parts kinds.While (and_rest (value_statement i j n a u) r w) = elim n [ ]
  loop_parts kinds.DoWhile (and_rest (value_statement i j n a u) r w) = elim n [ ]
  loop_parts (kinds.For init update) (and_rest (value_statement i j n a u) r w) = elim n [ ]
  loop_parts (kinds.ForOf init) (and_rest (value_statement i j n a u) r w) = elim n [ ]
  loop_parts kinds.ForIn (and_rest (value_statement i j n a u) r w) = elim n [ ]
  loop_parts kinds.While (and_rest (while_loop e d) r w) = without_init _ no_value (λ h. e) d w
  loop_parts kinds.DoWhile (and_rest (do_while_loop d) r w) = without_init _ no_value (λ h. absurd (false≢true h)) d w
  loop_parts (kinds.For init update) (and_rest {rest_used = back}
      (for_loop {init_value = value} {parts = parts} {init_used = first} {turns_used = second} g d q) r w) =
      record {
        init = Some value;
        parts = parts;
        init_used = first;
        turns_used = second;
        rest_used = back;
        reached = λ h. absurd (false≢true h);
        init_spelled = some_value g;
        turns_spelled = d;
        whole = w ∙ ap (λ z. z ++ back) q;
      }
  loop_parts (kinds.ForOf init) (and_rest (for_of_loop e d) r w) = without_init _ no_value (λ h. absurd (false≢true h)) d w
  loop_parts kinds.ForIn (and_rest (for_in_loop d) r w) = without_init _ no_value (λ h. absurd (false≢true h)) d w

-- the statement of a loop that these parts give
record IsLoopTree (s : Setting) (kind : LoopKind) (t : LoopTerminal) (init : Option Value) (parts : LoopParts)
    (used : List BlockId) : Type 0 where
  whole : TreeTerminal
  is : tree_with kind t (values_of init parts) (statements_of parts.body) ≡ Some (plain.terminal_of whole)
  spelled : SpellsStatement s.hir s.env (terminal_with kind t) s.context true t.fallthrough
      (TerminalStatement whole (label_of true t.fallthrough)) used

-- a block has a value
there : {hir : HirFunction} {env : Environment} {blocks : LoopBlocks} {context : ListContext} {key : BlockId}
    {at : Option Value} {used : List BlockId} → SpellsBefore hir env blocks context (Some key) at used
    → (value : Value) × (at ≡ Some value)
there (some_value {value = value} d) = (value, refl)

turns_there : {hir : HirFunction} {env : Environment} {blocks : LoopBlocks} {context : ListContext} {key : BlockId}
    {parts : LoopParts} {used : List BlockId} → SpellsTurns hir env blocks context parts used
    → blocks.before ≡ Some key → (value : Value) × (parts.before ≡ Some value)
turns_there {hir} {env} {blocks} {context} {parts = parts} (turns {before_used = middle} x y t b d w) e =
    there (subst (λ z. SpellsBefore hir env blocks context z parts.before middle) e b)

module _ {s : Setting} {t : LoopTerminal} where
  loop_tree : (kind : LoopKind) {init : Option Value} {parts : LoopParts} {first second : List BlockId}
      → (is_while_kind kind ≡ true → ends_unreachable s.hir t.fallthrough ≡ false)
      → SpellsBefore s.hir s.env (blocks_with kind true t) s.context (init_of kind) init first
      → SpellsTurns s.hir s.env (blocks_with kind (is_flat kind) t) s.context parts second
      → IsLoopTree s kind t init parts (first ++ second)
  loop_tree kinds.While {parts = parts} reached no_value d =
      record { whole = While parts.test parts.body t.id; is = refl; spelled = while_loop (reached refl) d }
  loop_tree kinds.DoWhile {parts = parts} reached no_value d =
      record { whole = DoWhile parts.body parts.test t.id; is = refl; spelled = do_while_loop d }
  loop_tree (kinds.For init update) {parts = parts} reached (some_value {value = value} g) d = record {
    whole = For value parts.test parts.before parts.body t.id;
    is = refl;
    spelled = for_loop g d refl;
  }
  loop_tree (kinds.ForOf init) {parts = parts} reached no_value d =
      let v = turns_there d refl in record {
        whole = ForOf v.0 parts.test parts.body t.span t.id;
        is = ap (λ z. option_map
            (λ value. tree.ForOf value (value_of parts.test) (record { statements = statements_of parts.body }) t.span
            t.id)
            (option_map value_of z)) v.1;
        spelled = for_of_loop v.1 d;
      }
  loop_tree kinds.ForIn {parts = parts} reached no_value d =
      record { whole = ForIn parts.test parts.body t.span t.id; is = refl; spelled = for_in_loop d }

-- the tree of a loop whose parts are built
abbrev built_tree : LoopTerminal → Option ReactiveValue → TurnValues × List ReactiveStatement → Option ReactiveTerminal
built_tree t init built = tree_of t (record { init = init; turn = built.0 }) built.1

-- what runs before all turns is built, as a part
abbrev pub InitBuilt : Setting → LoopTerminal → Option ReactiveValue → Progress → Progress → Type 0
InitBuilt s t built old new =
    BuiltPart (option_map value_of) (SpellsInit s t) s.hir (option_to_list (init_of t.kind)) built old new

module _ (s : Setting) (t : LoopTerminal) where
  turns_apart : {parts : LoopParts} {used : List BlockId} → SpellsTurnsOf s t parts used
      → (is_jump_target s.context.frames t.fallthrough ≡ false)
      × (is_jump_target s.context.frames (turn_start (blocks_of t)) ≡ false)
  turns_apart (turns x y test before body w) = (x, y)

  -- a loop with such blocks is refused
  pub live_refused : (used : List BlockId) → is_live s.hir s.context.frames t ≡ true
      → Refused s.hir (Spells s (FromTerminal (terminal_of t))) used
  live_refused used live all blocks d sound =
      let p = loop_parts t.kind d in go p.reached (turns_apart p.turns_spelled) (live_ways s.hir s.context.frames t live)
    where
      go : (is_while_kind t.kind ≡ true → ends_unreachable s.hir t.fallthrough ≡ false)
          → (is_jump_target s.context.frames t.fallthrough ≡ false)
          × (is_jump_target s.context.frames (turn_start (blocks_of t)) ≡ false)
          → LiveWays s.hir s.context.frames t → ⊥
      go reached apart (inl h) = let e = apart.0 in let bad : ⊥ = cc in bad
      go reached apart (inr (inl h)) = let e = apart.1 in let bad : ⊥ = cc in bad
      go reached apart (inr (inr h)) =
          let e = reached h.0 in let f : ends_unreachable s.hir t.fallthrough ≡ true = h.1 in let bad : ⊥ = cc in bad

  -- so is one whose init is refused
  pub init_refused : (used : List BlockId) → Refused s.hir (SpellsInit s t) used
      → Refused s.hir (Spells s (FromTerminal (terminal_of t))) used
  init_refused used none all blocks d sound =
      let p = loop_parts t.kind d in
      none p.init p.init_used p.init_spelled (refused_front s.hir used p.init_used p.turns_used
      (refused_front s.hir used (p.init_used ++ p.turns_used) p.rest_used sound p.whole) refl)

  module _ {init : Option ReactiveValue} {old mid : Progress} (i : InitBuilt s t init old mid) where
    -- and one whose turns are refused after its init
    pub loop_refused : Refused s.hir (SpellsTurnsOf s t) mid.marks.used
        → Refused s.hir (Spells s (FromTerminal (terminal_of t))) old.marks.used
    loop_refused none all blocks d sound =
        let p = loop_parts t.kind d in
        none p.parts p.turns_used p.turns_spelled (refused_back s.hir old.marks.used i.newly p.turns_used
        (refused_front s.hir old.marks.used (p.init_used ++ p.turns_used) p.rest_used sound p.whole)
        (ap (λ z. z ++ p.turns_used) (one_before p.init_spelled i.spelled).1) i.marking.used)

    module _ {built : TurnValues × List ReactiveStatement} {last : Progress} (b : TurnsBuilt s t built mid last)
        (reached : is_while_kind t.kind ≡ true → ends_unreachable s.hir t.fallthrough ≡ false) where
      whole_tree : IsLoopTree s t.kind t i.value b.value (i.newly ++ b.newly)
      whole_tree = loop_tree t.kind reached i.spelled b.spelled

      tree_is : built_tree t init built ≡ Some (plain.terminal_of whole_tree.whole)
      tree_is = ap (λ z. built_tree t z built) i.is ∙ ap (built_tree t (option_map value_of i.value)) b.is ∙ whole_tree.is

      -- the parts are there that the loop's kind has
      pub tree_there : IsSome (built_tree t init built)
      tree_there = ap is_some tree_is

      -- once its statement is appended, the loop is built
      pub loop_built : {made : ReactiveTerminal} {statement : ReactiveStatement} {whole : List ReactiveStatement}
          → built_tree t init built ≡ Some made
          → statement ≡ terminal_statement made (label_at (Some t.fallthrough))
          → whole ≡ last.out ++ statement ∷ []
          → BuiltPrefix s (FromTerminal (terminal_of t)) (left (Some t.fallthrough)) old
          (record { marks = last.marks; out = whole })
      loop_built {made} {statement} {whole} e st w =
          statement_prefix true refl whole_tree.spelled put
          (marking_more s.hir (λ key. omega (
            arith,
            parts_le t t.kind key,
            times_append key (option_to_list (init_of t.kind)) ((value_blocks t ++ t.body ∷ []) ++ t.fallthrough ∷ []),
            times_append key (option_to_list (init_of t.kind)) (value_blocks t ++ t.body ∷ t.fallthrough ∷ []),
            times_append key (value_blocks t ++ t.body ∷ []) (t.fallthrough ∷ []),
            times_append key (value_blocks t) (t.body ∷ []),
            times_append key (value_blocks t) (t.body ∷ t.fallthrough ∷ []),
          )) (marking_then s.hir (marking_beside s.hir i.marking) (marking_beside s.hir b.marking)))
        where
          same : made ≡ plain.terminal_of whole_tree.whole
          same = let h = sym e ∙ tree_is in cc

          put : whole ≡ old.out
              ++ terminal_statement (plain.terminal_of whole_tree.whole) (label_of true t.fallthrough) ∷ []
          put = w ∙ ap (λ z. z ++ statement ∷ []) (b.kept ∙ i.kept) ∙ ap (λ z. old.out ++ z ∷ [])
              (st ∙ ap (λ z. terminal_statement z (label_at (Some t.fallthrough))) same)
