-- When the list of a case can be built, and once it is, the cases in front of it.
use Rattle.std.proofs.Common.{◌≡◌, ◌≤◌, true, List, [], ◌∷◌, ◌++◌, Option, sym, ap, subst, arith, inl, inr}
use Rattle.std.specs.Prelude.{◌⊎◌}
use Rattle.std.proofs.lemmas.List.{map-append}
use Rattle.rc_names.specs.Numbers.{BlockId, is_among, times}
use Rattle.rc_hir.specs.Model.{Case, HirFunction}
use Rattle.rc_hir.specs.Successors.{case_blocks}
use Rattle.rc_runs.specs.declared.frames.Frame.{Frame}
use Rattle.rc_runs.specs.declared.frames.Frame.TheVariants as frame_kinds
use Rattle.rc_build.specs.declared.builder.Marks.{Marks}
use Rattle.rc_build.specs.inside.CanBuild.{CanBuildList, IsUsed, pending_blocks, used_blocks}
use Rattle.rc_build.specs.inside.Marks.{MarksBlocks}
use Rattle.rc_build.specs.inside.Switches.{CanBuildCases}
use Rattle.rc_names.proofs.NumbersLemmas.{ids_equivalence}
use Rattle.rc_build.proofs.MarksLemmas.{among_alone, among_back, among_front, among_parts, among_same, alone_same}
use Rattle.rc_build.proofs.MarksLemmas.{referenced_fewer, times_append}
use Rattle.rc_build.proofs.OwnersLemmas.{owned_weaker}
use Rattle.rc_build.proofs.WalkLemmas.{used_more}

-- the blocks of one more case
blocks_push : (front : List Case) (case : Case) → case_blocks (front ++ case ∷ []) ≡ case_blocks front ++ case.block ∷ []
blocks_push front case = map-append (λ (z : Case). z.block) front (case ∷ [])

pub times_push : (front : List Case) (case : Case) (key : BlockId)
    → times key (case.block ∷ case_blocks front) ≤ times key (case_blocks (front ++ case ∷ []))
times_push front case key =
    omega (
      arith,
      ap (times key) (blocks_push front case),
      times_append key (case_blocks front) (case.block ∷ []),
      times_append key (case.block ∷ []) (case_blocks front),
    )

-- the list of the last waiting case can be built
pub case_can : {hir : HirFunction} {marks : Marks} {handler : Option BlockId} {frames : List Frame}
    {waiting : List Case} (front : List Case)
    (case : Case) → waiting ≡ front ++ case ∷ [] → CanBuildCases hir marks handler frames waiting
    → CanBuildList hir marks handler frames case.block
case_can {hir} {marks} {handler} {frames} {waiting} front case e can = record {
  marked = can.marked;
  handled = can.handled;
  referenced = referenced_fewer hir marks.used (case.block ∷ pending_blocks frames)
      (case_blocks waiting ++ pending_blocks frames)
      (λ key. omega (
        arith,
        times_append key (case_blocks waiting) (pending_blocks frames),
        times_append key (case.block ∷ []) (pending_blocks frames),
        times_append key (case.block ∷ []) (case_blocks front),
        times_push front case key,
        ap (λ (z : List Case). times key (case_blocks z)) e,
      )) can.referenced;
  used_before = can.used_before;
  owned = can.owned;
}

-- cases can be built inside the mark of their switch
pub cases_marked : {hir : HirFunction} {marks : Marks} {handler : Option BlockId} {frames : List Frame}
    {cases : List Case} → CanBuildCases hir marks handler frames cases
    → CanBuildCases hir marks handler (frame_kinds.Mark ∷ frames) cases
cases_marked can = record {
  marked = can.marked;
  handled = can.handled;
  referenced = can.referenced;
  used_before = can.used_before;
  owned = (
    record {
      owner = can.owner;
      chosen = can.used;
      owns = record { block = can.here.block; found = can.here.found; holds = tt };
    },
    can.owned,
  );
  owner = can.owner;
  used = can.used;
  here = can.here;
}

-- once it is built and its frame is entered, the cases in front of it can be built
pub cases_can : {hir : HirFunction} {old new : Marks} {handler : Option BlockId} {frames : List Frame}
    {waiting front : List Case} (case : Case)
    {blocks : List BlockId} → waiting ≡ front ++ case ∷ [] → CanBuildCases hir old handler frames waiting
    → MarksBlocks hir (case_blocks waiting) (case_blocks front) old new blocks → IsUsed new case.block
    → CanBuildCases hir new handler (frame_kinds.Case case.block ∷ frames) front
cases_can {hir} {old} {new} {handler} {frames} {waiting} {front} case e can m here = record {
  marked = m.marked;
  handled = can.handled;
  referenced = m.referenced (pending_blocks frames) can.referenced;
  used_before = λ key h. before key (among_parts (case.block ∷ []) (used_blocks frames) key h);
  owned = (
    record {
      owner = can.owner;
      chosen = used_more hir m can.owner can.used;
      owns = record {
        block = can.here.block;
        found = can.here.found;
        holds = can.here.holds case.block (among case.block (among_back (case_blocks front) (case.block ∷ []) case.block
            (alone case.block)));
      };
    },
    owned_weaker hir (IsUsed old) (IsUsed new) frames (used_more hir m) can.owned,
  );
  owner = can.owner;
  used = used_more hir m can.owner can.used;
  here = record {
    block = can.here.block;
    found = can.here.found;
    holds = λ key h. can.here.holds key (among key (among_front (case_blocks front) (case.block ∷ []) key h));
  };
}
  where
    alone : (block : BlockId) → is_among (block ∷ []) block ≡ true
    alone block = among_alone block block (ids_equivalence.refl block)

    among : (key : BlockId) → is_among (case_blocks front ++ case.block ∷ []) key ≡ true
        → is_among (case_blocks waiting) key ≡ true
    among key h = subst (λ (z : List Case). is_among (case_blocks z) key ≡ true) (sym e)
        (subst (λ z. is_among z key ≡ true) (sym (blocks_push front case)) h)

    before : (key : BlockId) → (is_among (case.block ∷ []) key ≡ true) ⊎ (is_among (used_blocks frames) key ≡ true)
        → IsUsed new key
    before key (inl h) = among_same new.used case.block key here (alone_same case.block key h)
    before key (inr h) = used_more hir m key (can.used_before key h)
