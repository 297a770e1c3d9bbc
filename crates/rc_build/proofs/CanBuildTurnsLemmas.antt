-- When the values and the body of a loop's turn can be built.
use Rattle.std.proofs.Common.{◌≡◌, ◌≤◌, true, false, List, [], ◌∷◌, ◌++◌, Option, sym, ap, subst, arith}
use Rattle.std.specs.Option.{option_to_list}
use Rattle.rc_names.specs.Numbers.{BlockId, is_among, times}
use Rattle.rc_hir.specs.Model.{Terminal, HirFunction}
use Rattle.rc_runs.specs.declared.frames.Frame.{Frame}
use Rattle.rc_runs.specs.Frames.{is_jump_target}
use Rattle.rc_runs.specs.LoopParts.{loop_frame, turn_start}
use Rattle.rc_build.specs.declared.builder.Marks.{Marks}
use Rattle.rc_build.specs.declared.loops.LoopTerminal.{LoopTerminal}
use Rattle.rc_build.specs.References.{referenced_blocks, value_references}
use Rattle.rc_build.specs.BlockFacts.{BlockIs}
use Rattle.rc_build.specs.inside.CanBuild.{AreMarked, AreReferenced, CanBuildList, CanBuildTerminal, IsUsed}
use Rattle.rc_build.specs.inside.CanBuild.{IsUsedApart, pending_blocks}
use Rattle.rc_build.specs.inside.LoopKinds.{before_of, blocks_of, init_of, terminal_of, value_blocks}
use Rattle.rc_build.specs.inside.Loops.{CanBuildBefore, CanBuildTurns}
use Rattle.rc_build.specs.inside.Marks.{MarksBlocks}
use Rattle.rc_build.specs.inside.Values.{CanBuildValue}
use Rattle.rc_build.proofs.LoopKindLemmas.{falls_with, parts_le, tests_before, tests_init, tests_start, tests_test}
use Rattle.rc_build.proofs.LoopKindLemmas.{valued_with}
use Rattle.rc_build.proofs.MarksLemmas.{referenced_fewer, times_append}
use Rattle.rc_build.proofs.OwnersLemmas.{owned_weaker}
use Rattle.rc_build.proofs.WalkLemmas.{framed_list, none_used, used_alone, used_more}

module _ {hir : HirFunction} where
  -- a value of a terminal can be built while its block is pending
  pub value_can : {marks : Marks} {owner : BlockId} {terminal : Terminal} (key : BlockId) (pending : List BlockId)
      → AreMarked hir marks → AreReferenced hir marks.used pending
      → ((other : BlockId) → times other (key ∷ []) ≤ times other pending)
      → BlockIs hir owner (λ block. block.terminal ≡ terminal) → is_among (value_references terminal) key ≡ true
      → CanBuildValue hir marks key
  value_can {marks} {owner} key pending marked references fewer here valued = record {
    can = record {
      marked = marked;
      handled = tt;
      referenced = referenced_fewer hir marks.used (key ∷ []) pending fewer references;
      used_before = none_used marks;
      owned = tt;
    };
    referenced = (
      owner,
      record {
        block = here.block;
        found = here.found;
        holds = subst (λ z. is_among (value_references z) key ≡ true) (sym here.holds) valued;
      },
    );
  }

  module _ (t : LoopTerminal) {handler : Option BlockId} {frames : List Frame} where
    -- the init of a loop can be built
    pub init_can : {marks : Marks} {key : BlockId} → CanBuildTerminal hir marks handler frames key (terminal_of t)
        → CanBuildBefore hir marks (init_of t.kind)
    init_can can = record {
      marked = can.marked;
      value = λ init e. value_can init (referenced_blocks (terminal_of t) ++ pending_blocks frames) can.marked
          can.referenced (λ other. omega (
            arith,
            parts_le t t.kind other,
            ap (λ z. times other (option_to_list z)) e,
            times_append other (option_to_list (init_of t.kind)) (value_blocks t ++ t.body ∷ t.fallthrough ∷ []),
            times_append other (referenced_blocks (terminal_of t)) (pending_blocks frames),
          )) can.here (valued_with t t.kind init (tests_init t t.kind init e));
    }

    -- its turns can be built, once its init is marked
    pub turns_can : {old new : Marks} {key : BlockId} {blocks : List BlockId}
        → CanBuildTerminal hir old handler frames key (terminal_of t)
        → MarksBlocks hir (option_to_list (init_of t.kind)) [] old new blocks
        → is_jump_target frames t.fallthrough ≡ false → is_jump_target frames (turn_start (blocks_of t)) ≡ false
        → CanBuildTurns hir new handler frames t
    turns_can {old} {new} {key} can m falls starts = record {
      marked = m.marked;
      handled = can.handled;
      referenced = m.referenced (turn_blocks ++ pending_blocks frames)
          (referenced_fewer hir old.used (option_to_list (init_of t.kind) ++ (turn_blocks ++ pending_blocks frames))
          (referenced_blocks (terminal_of t) ++ pending_blocks frames) (λ other. omega (
            arith,
            parts_le t t.kind other,
            times_append other (option_to_list (init_of t.kind)) (turn_blocks ++ pending_blocks frames),
            times_append other (option_to_list (init_of t.kind)) turn_blocks,
            times_append other turn_blocks (pending_blocks frames),
            times_append other (referenced_blocks (terminal_of t)) (pending_blocks frames),
          )) can.referenced);
      used_before = λ other h. used_more hir m other (can.used_before other h);
      owned = owned_weaker hir (IsUsedApart old key) (IsUsed new) frames (λ other h. used_more hir m other h.0) can.owned;
      owner = key;
      used = used_more hir m key can.used;
      here = can.here;
      falls_apart = falls;
      starts_apart = starts;
    }
      where
        turn_blocks : List BlockId
        turn_blocks = value_blocks t ++ t.body ∷ t.fallthrough ∷ []

    module _ {old : Marks} (can : CanBuildTurns hir old handler frames t) where
      -- the test of a turn can be built
      pub test_can : CanBuildValue hir old t.test
      test_can = value_can t.test ((value_blocks t ++ t.body ∷ t.fallthrough ∷ []) ++ pending_blocks frames) can.marked
          can.referenced (λ other. omega (
            arith,
            times_append other (t.test ∷ [])
                ((option_to_list (before_of t.kind) ++ t.body ∷ t.fallthrough ∷ []) ++ pending_blocks frames),
          )) can.here (valued_with t t.kind t.test (tests_test t t.kind))

      -- what runs before the test can be built, once the test is marked
      pub before_can : {new : Marks} {blocks : List BlockId} → MarksBlocks hir (t.test ∷ []) [] old new blocks
          → CanBuildBefore hir new (before_of t.kind)
      before_can m = record {
        marked = m.marked;
        value = λ before e. value_can before (left ++ pending_blocks frames) m.marked
            (m.referenced (left ++ pending_blocks frames) can.referenced) (λ other. omega (
              arith,
              ap (λ z. times other (option_to_list z)) e,
              times_append other (option_to_list (before_of t.kind)) (t.body ∷ t.fallthrough ∷ []),
              times_append other left (pending_blocks frames),
            )) can.here (valued_with t t.kind before (tests_before t t.kind before e));
      }
        where
          left : List BlockId
          left = option_to_list (before_of t.kind) ++ t.body ∷ t.fallthrough ∷ []

      -- the body can be built inside the loop's frame, once the values are marked
      pub body_can : {new : Marks} {blocks : List BlockId} → MarksBlocks hir (value_blocks t) [] old new blocks
          → IsUsed new (turn_start (blocks_of t)) → CanBuildList hir new handler (loop_frame (blocks_of t) ∷ frames)
          t.body
      body_can {new} m u =
          framed_list hir (loop_frame (blocks_of t)) (used_more hir m can.owner can.used) can.here
          (falls_with t t.kind, tests_start t t.kind) (used_alone new (turn_start (blocks_of t)) u) left (record {
            marked = m.marked;
            handled = can.handled;
            referenced = referenced_fewer hir new.used (t.body ∷ pending_blocks frames)
                (t.body ∷ t.fallthrough ∷ pending_blocks frames) (λ other. omega arith) left;
            used_before = λ other h. used_more hir m other (can.used_before other h);
            owned = owned_weaker hir (IsUsed old) (IsUsed new) frames (used_more hir m) can.owned;
          })
        where
          left : AreReferenced hir new.used (t.body ∷ t.fallthrough ∷ pending_blocks frames)
          left = m.referenced (t.body ∷ t.fallthrough ∷ pending_blocks frames)
              (referenced_fewer hir old.used (value_blocks t ++ t.body ∷ t.fallthrough ∷ pending_blocks frames)
              ((value_blocks t ++ t.body ∷ t.fallthrough ∷ []) ++ pending_blocks frames) (λ other. omega (
                arith,
                times_append other (value_blocks t) (t.body ∷ t.fallthrough ∷ pending_blocks frames),
                times_append other (value_blocks t) (t.body ∷ t.fallthrough ∷ []),
                times_append other (value_blocks t ++ t.body ∷ t.fallthrough ∷ []) (pending_blocks frames),
              )) can.referenced)
