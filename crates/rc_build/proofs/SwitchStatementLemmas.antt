-- What a switch is: the cases that it keeps, inside its frame.
use Rattle.std.proofs.Common.{◌≡◌, ◌≤◌, Bool, true, false, List, [], ◌∷◌, ◌++◌, Option, Some, None, refl, sym, ap, ◌∙◌}
use Rattle.std.proofs.Common.{subst, arith, inl, inr, ◌||◌}
use Rattle.std.specs.Prelude.{◌⊎◌, is_some, not, if◌then◌else◌}
use Rattle.std.specs.List.{list_any}
use Rattle.std.proofs.lemmas.Bool.{or_cases, or_left, or_right}
use Rattle.rc_names.specs.Numbers.{BlockId, EvaluationOrder, is_among, same_id, times}
use Rattle.rc_names.specs.declared.span.Span.{Span}
use Rattle.rc_hir.specs.Model.{Place, Case, HirFunction}
use Rattle.rc_hir.specs.Successors.{case_blocks, is_default}
use Rattle.rc_hir.specs.declared.fault.Rule.TheVariants.{SwitchCase}
use Rattle.rc_hir.specs.declared.terminal.Terminal.TheVariants as terminals
use Rattle.rc_tree.specs.Model.{ReactiveStatement, ReactiveSwitchCase}
use Rattle.rc_tree.specs.declared.terminal.ReactiveTerminal.TheVariants as tree
use Rattle.rc_runs.specs.declared.frames.Frame.{Frame}
use Rattle.rc_runs.specs.declared.frames.Frame.TheVariants as frame_kinds
use Rattle.rc_runs.specs.Frames.{is_jump_target}
use Rattle.rc_runs.specs.ListContext.{inside, marked}
use Rattle.rc_runs.specs.TreeOf.{cases_of}
use Rattle.rc_runs.specs.SwitchCases.{has_one_default, tests_past, kept_cases, is_kept}
use Rattle.rc_runs.specs.Fallthrough.{falls_to, label_of, opens_reachable}
use Rattle.rc_runs.specs.Grammar.{value_statement, SpellsCases, and_rest, switch_statement}
use Rattle.rc_build.specs.declared.builder.Marks.{Marks}
use Rattle.rc_build.specs.References.{InCase, blocks_as, fallthrough_of}
use Rattle.rc_build.specs.RuleFacts.{HasOddCases, RuleFact}
use Rattle.rc_build.specs.inside.CanBuild.{CanBuildTerminal, IsUsed, IsUsedApart, pending_blocks}
use Rattle.rc_build.specs.inside.Depths.{frames_inside}
use Rattle.rc_build.specs.inside.Setting.{Setting, label_at, marked_setting, open_block, part_setting, terminal_statement}
use Rattle.rc_build.specs.inside.Switches.{BuiltCases, CanBuildCases, SpellsKept}
use Rattle.rc_build.specs.inside.Task.{FromTerminal, Progress, Spells, left}
use Rattle.rc_build.specs.inside.Built.{BuiltPrefix, Refused}
use Rattle.rc_build.proofs.BuiltLemmas.{is_some-opened, marking_beside, marking_more, refused_front, statement_prefix}
use Rattle.rc_build.proofs.MarksLemmas.{among_front, referenced_fewer, times_append}
use Rattle.rc_build.proofs.CanBuildCasesLemmas.{cases_marked}
use Rattle.rc_build.proofs.OwnersLemmas.{owned_weaker}
use Rattle.rc_build.proofs.StatementLemmas.{label_at-opened}

-- fewer cases refer to fewer blocks
times_kept : (is_target : Bool) (fallthrough key : BlockId) (cases : List Case)
    → times key (case_blocks (kept_cases is_target fallthrough cases)) ≤ times key (case_blocks cases)
times_kept is_target fallthrough key [] = omega arith
times_kept is_target fallthrough key (case ∷ cases) =
    go (is_kept is_target fallthrough case) (times_kept is_target fallthrough key cases)
  where
    kept : List Case
    kept = kept_cases is_target fallthrough cases

    go : (b : Bool) → times key (case_blocks kept) ≤ times key (case_blocks cases)
        → times key (case_blocks (if b then case ∷ kept else kept)) ≤ times key (case_blocks (case ∷ cases))
    go true h = omega (
      arith,
      h,
      times_append key (case.block ∷ []) (case_blocks kept),
      times_append key (case.block ∷ []) (case_blocks cases),
    )
    go false h = omega (arith, h, times_append key (case.block ∷ []) (case_blocks cases))

among_kept : (is_target : Bool) (fallthrough key : BlockId) (cases : List Case)
    → is_among (case_blocks (kept_cases is_target fallthrough cases)) key ≡ true → is_among (case_blocks cases) key ≡ true
among_kept is_target fallthrough key [] h = h
among_kept is_target fallthrough key (case ∷ cases) h =
    go (is_kept is_target fallthrough case) h (among_kept is_target fallthrough key cases)
  where
    kept : List Case
    kept = kept_cases is_target fallthrough cases

    go : (b : Bool) → is_among (case_blocks (if b then case ∷ kept else kept)) key ≡ true
        → (is_among (case_blocks kept) key ≡ true → is_among (case_blocks cases) key ≡ true)
        → is_among (case_blocks (case ∷ cases)) key ≡ true
    go false h f = or_right (same_id key case.block) (is_among (case_blocks cases) key) (f h)
    go true h f = pick (or_cases (same_id key case.block) (is_among (case_blocks kept) key) h) f
      where
        pick : (same_id key case.block ≡ true) ⊎ (is_among (case_blocks kept) key ≡ true)
            → (is_among (case_blocks kept) key ≡ true → is_among (case_blocks cases) key ≡ true)
            → is_among (case_blocks (case ∷ cases)) key ≡ true
        pick (inl e) f = or_left (same_id key case.block) (is_among (case_blocks cases) key) e
        pick (inr e) f = or_right (same_id key case.block) (is_among (case_blocks cases) key) (f e)

-- tests of cases, taken apart
pub odd_parts : (one past : Bool) → (not one || past) ≡ true → (one ≡ false) ⊎ (past ≡ true)
odd_parts true past e = inr e
odd_parts false past e = inl refl

pub odd_none : (one past : Bool) → (not one || past) ≡ false → (one ≡ true) × (past ≡ false)
odd_none true past e = (refl, e)
odd_none false past e = let bad : ⊥ = cc in absurd bad

pub or_parts : (a b : Bool) → (a || b) ≡ false → (a ≡ false) × (b ≡ false)
or_parts true b e = let bad : ⊥ = cc in absurd bad
or_parts false b e = (refl, e)

-- the cases that are kept, by what the builder knows of the fallthrough
pub kept_chosen : (cases : List Case) (fallthrough : BlockId) {kept : List Case} {is_target target : Bool} → kept ≡ kept_cases is_target fallthrough cases → is_target ≡ target → kept ≡ kept_cases target fallthrough cases
kept_chosen cases fallthrough k e = k ∙ ap (λ b. kept_cases b fallthrough cases) e

-- the same cases are kept, however it is said that the fallthrough is opened
kept_same : (cases : List Case) (fallthrough : BlockId) (target a b : Bool) {kept others : List Case} → b ≡ a
    → kept ≡ kept_cases (a || target) fallthrough cases → others ≡ kept_cases (b || target) fallthrough cases
    → others ≡ kept
kept_same cases fallthrough target a b e k other = other ∙ ap (λ z. kept_cases (z || target) fallthrough cases) e ∙ sym k

module _ {hir : HirFunction} {marks : Marks} {handler : Option BlockId} {frames : List Frame} {key : BlockId}
    {test : Place} {cases : List Case}
    {fallthrough : BlockId} {id : EvaluationOrder} {span : Option Span}
    (can : CanBuildTerminal hir marks handler frames key (terminals.Switch test cases fallthrough id span)) where
  -- the cases that are kept can be built inside the frame of the switch, with its mark
  pub switch_can : (at : Option BlockId) (is_target : Bool)
      → CanBuildCases hir marks handler
      (frame_kinds.Mark ∷ frames_inside at (frame_kinds.Switch fallthrough) frames)
      (kept_cases is_target fallthrough cases)
  switch_can at is_target = cases_marked (go at)
    where
      kept : List Case
      kept = kept_cases is_target fallthrough cases

      within : (key : BlockId) → is_among (case_blocks kept) key ≡ true
          → is_among (blocks_as InCase can.here.block.terminal) key ≡ true
      within key h = subst (λ z. is_among (blocks_as InCase z) key ≡ true) (sym can.here.holds)
          (among_front (case_blocks cases) [] key (among_kept is_target fallthrough key cases h))

      go : (at : Option BlockId) → CanBuildCases hir marks handler
          (frames_inside at (frame_kinds.Switch fallthrough) frames) kept
      go None = record {
        marked = can.marked;
        handled = can.handled;
        referenced = referenced_fewer hir marks.used (case_blocks kept ++ pending_blocks frames)
            ((case_blocks cases ++ fallthrough ∷ []) ++ pending_blocks frames)
            (λ other. omega (
              arith,
              times_kept is_target fallthrough other cases,
              times_append other (case_blocks kept) (pending_blocks frames),
              times_append other (case_blocks cases ++ fallthrough ∷ []) (pending_blocks frames),
              times_append other (case_blocks cases) (fallthrough ∷ []),
            )) can.referenced;
        used_before = can.used_before;
        owned = owned_weaker hir (IsUsedApart marks key) (IsUsed marks) frames (λ other h. h.0) can.owned;
        owner = key;
        used = can.used;
        here = record { block = can.here.block; found = can.here.found; holds = within };
      }
      go (Some block) = record {
        marked = can.marked;
        handled = can.handled;
        referenced = referenced_fewer hir marks.used (case_blocks kept ++ (fallthrough ∷ pending_blocks frames))
            ((case_blocks cases ++ fallthrough ∷ []) ++ pending_blocks frames)
            (λ other. omega (
              arith,
              times_kept is_target fallthrough other cases,
              times_append other (case_blocks kept) (fallthrough ∷ pending_blocks frames),
              times_append other (fallthrough ∷ []) (pending_blocks frames),
              times_append other (case_blocks cases ++ fallthrough ∷ []) (pending_blocks frames),
              times_append other (case_blocks cases) (fallthrough ∷ []),
            )) can.referenced;
        used_before = can.used_before;
        owned = (
          record {
            owner = key;
            chosen = can.used;
            owns = record {
              block = can.here.block;
              found = can.here.found;
              holds = ap fallthrough_of can.here.holds;
            };
          },
          owned_weaker hir (IsUsedApart marks key) (IsUsed marks) frames (λ other h. h.0) can.owned,
        );
        owner = key;
        used = can.used;
        here = record { block = can.here.block; found = can.here.found; holds = within };
      }

  -- cases that no switch may have
  pub odd_cases : (has_one_default cases ≡ false) ⊎ (tests_past fallthrough cases ≡ true) → RuleFact hir SwitchCase key
  odd_cases odd = record {
    block = can.here.block;
    found = can.here.found;
    holds = subst HasOddCases (sym can.here.holds) odd;
  }

module _ {s : Setting} {test : Place} {cases : List Case} {fallthrough : BlockId} {id : EvaluationOrder}
    {span : Option Span} where
  -- a switch with such cases is refused
  pub odd_refused : (used : List BlockId) → (has_one_default cases ≡ false) ⊎ (tests_past fallthrough cases ≡ true)
      → Refused s.hir (Spells s (FromTerminal (terminals.Switch test cases fallthrough id span))) used
  odd_refused used (inl e) all blocks (and_rest (switch_statement i l one past k z d) r w) sound = let bad : ⊥ = cc in bad
  odd_refused used (inr e) all blocks (and_rest (switch_statement i l one past k z d) r w) sound = let bad : ⊥ = cc in bad
  odd_refused used (inl e) all blocks (and_rest (value_statement i j n a u) r w) sound = elim n [ ]
  odd_refused used (inr e) all blocks (and_rest (value_statement i j n a u) r w) sound = elim n [ ]

  module _ {at : Option BlockId} {kept : List Case}
      (opened : at ≡ open_block (opens_reachable s.hir s.context.frames fallthrough) fallthrough)
      (chosen : kept ≡ kept_cases (is_some at || is_jump_target s.context.frames fallthrough) fallthrough cases) where
    -- a switch whose cases are refused is refused
    pub switch_refused : (used : List BlockId)
        → Refused s.hir (SpellsKept (marked_setting (part_setting at (frame_kinds.Switch fallthrough) s)) kept) used
        → Refused s.hir (Spells s (FromTerminal (terminals.Switch test cases fallthrough id span))) used
    switch_refused used none all blocks (and_rest (value_statement i j n a u) r w) sound = elim n [ ]
    switch_refused used none all blocks
        (and_rest {part_used = front} {rest_used = back} (switch_statement {opened = p} {parts = parts} i l one past k z d)
        r w) sound =
        none parts front
        (subst (λ b. SpellsCases s.hir s.env kept (marked (inside b (frame_kinds.Switch fallthrough) s.context)) parts front)
        (i ∙ sym (is_some-opened _ fallthrough opened))
        (subst (λ y. SpellsCases s.hir s.env y (marked (inside p (frame_kinds.Switch fallthrough) s.context)) parts front)
        (kept_same cases fallthrough (is_jump_target s.context.frames fallthrough) (is_some at) p
        (i ∙ sym (is_some-opened _ fallthrough opened)) chosen k) d)) (refused_front s.hir used front back sound w)

    -- so is one without a default that falls elsewhere
    pub switch_elsewhere : (used : List BlockId)
        → (list_any is_default kept || falls_to (is_some at) fallthrough s.context.next) ≡ false
        → Refused s.hir (Spells s (FromTerminal (terminals.Switch test cases fallthrough id span))) used
    switch_elsewhere used shut all blocks (and_rest (value_statement i j n a u) r w) sound = elim n [ ]
    switch_elsewhere used shut all blocks (and_rest (switch_statement {opened = p} i l one past k z d) r w) sound =
        let is_open = i ∙ sym (is_some-opened _ fallthrough opened) in
        let same = kept_same cases fallthrough (is_jump_target s.context.frames fallthrough) (is_some at) p is_open chosen k
        in
        let falls = subst (λ b. (list_any is_default kept || falls_to b fallthrough s.context.next) ≡ true) is_open
        (subst (λ y. (list_any is_default y || falls_to p fallthrough s.context.next) ≡ true) same z) in
        let bad : ⊥ = cc in bad

    -- once its cases are built and its statement is appended, the switch is built
    pub switch_built : {list : List ReactiveSwitchCase} {statement : ReactiveStatement} {old last : Progress}
        {whole : List ReactiveStatement} → has_one_default cases ≡ true → tests_past fallthrough cases ≡ false
        → (list_any is_default kept || falls_to (is_some at) fallthrough s.context.next) ≡ true
        → BuiltCases (marked_setting (part_setting at (frame_kinds.Switch fallthrough) s)) kept list old last
        → statement ≡ terminal_statement (tree.Switch test list id) (label_at at)
        → whole ≡ last.out ++ statement ∷ []
        → BuiltPrefix s (FromTerminal (terminals.Switch test cases fallthrough id span)) (left at) old
        (record { marks = last.marks; out = whole })
    switch_built {list} {statement} {old} {last} {whole} one past falls b st w =
        statement_prefix (opens_reachable s.hir s.context.frames fallthrough) opened
        (switch_statement (is_some-opened _ fallthrough opened) refl one past chosen falls b.spelled) put
        (marking_more s.hir (λ key. omega (
          arith,
          times_kept (is_some at || is_jump_target s.context.frames fallthrough) fallthrough key cases,
          ap (λ (z : List Case). times key (case_blocks z)) chosen,
          times_append key (case_blocks kept) (fallthrough ∷ []),
          times_append key (case_blocks cases) (fallthrough ∷ []),
        )) (marking_beside s.hir b.marking))
      where
        put : whole ≡ old.out
            ++ terminal_statement (tree.Switch test (cases_of b.value) id) (label_of (is_some at) fallthrough) ∷ []
        put = w ∙ ap (λ z. z ++ statement ∷ []) b.kept ∙ ap (λ z. old.out ++ z ∷ [])
            (st ∙ ap (λ z. terminal_statement (tree.Switch test z id) (label_at at)) b.is
            ∙ ap (terminal_statement (tree.Switch test (cases_of b.value) id)) (label_at-opened _ fallthrough opened))
