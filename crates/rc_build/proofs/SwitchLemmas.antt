-- The cases of a switch, built from the last to the first, and the switch around them.
use Rattle.std.proofs.Common.{◌≡◌, ◌<◌, suc, ◌+◌, true, List, [], ◌∷◌, ◌++◌, Option, Some, None, drop, length}
use Rattle.std.proofs.Common.{reverse, refl, sym, ap, ◌∙◌, subst, arith, append_assoc, length-append}
use Rattle.std.specs.Prelude.{◌↔◌, is_some, IfSome, IsNone}
use Rattle.std.proofs.lemmas.List.{append-nil, reverse-append}
use Rattle.rc_names.specs.Numbers.{BlockId, is_among, times}
use Rattle.rc_hir.specs.Model.{Case}
use Rattle.rc_hir.specs.Successors.{case_blocks}
use Rattle.rc_tree.specs.Model.{ReactiveStatement, ReactiveSwitchCase}
use Rattle.rc_runs.specs.declared.frames.Frame.{Frame}
use Rattle.rc_runs.specs.declared.frames.Frame.TheVariants as frame_kinds
use Rattle.rc_runs.specs.ListContext.{ListContext}
use Rattle.rc_runs.specs.PlainTree.{Cases, NoCases, Case as TreeCase, Statements, Present}
use Rattle.rc_runs.specs.TreeOf.{statements_of}
use Rattle.rc_runs.specs.SwitchCases.{case_context}
use Rattle.rc_runs.specs.Grammar.{no_cases, one_case, from_block}
use Rattle.rc_runs.specs.Spelled.{AreSound}
use Rattle.rc_runs.proofs.OneTree.{one_cases}
use Rattle.rc_build.specs.declared.builder.Builder.{Builder}
use Rattle.rc_build.specs.declared.builder.Marks.{Marks}
use Rattle.rc_build.specs.declared.builder.Site.{Site}
use Rattle.rc_build.specs.inside.CanBuild.{IsUsed}
use Rattle.rc_build.specs.inside.Marks.{MarksBlocks}
use Rattle.rc_build.specs.inside.Setting.{Setting, setting_of}
use Rattle.rc_build.specs.inside.Switches.{BuiltCases, CanBuildCases, CasesSoFar, EndsAt, SpellsKept, setting_after}
use Rattle.rc_build.specs.inside.Switches.{switch_case}
use Rattle.rc_build.specs.inside.Task.{FromBlock, Spells, progress_of}
use Rattle.rc_build.specs.inside.Built.{BuiltList, Refused}
use Rattle.rc_build.proofs.BuildsLemmas.{same_graph}
use Rattle.rc_build.proofs.BuiltLemmas.{marking_beside, marking_more, marking_none, marking_then, refused_back}
use Rattle.rc_build.proofs.BuiltLemmas.{refused_front}
use Rattle.rc_names.proofs.NumbersLemmas.{ids_equivalence}
use Rattle.rc_build.proofs.MarksLemmas.{among_alone, among_back, among_front}
use Rattle.rc_build.proofs.CanBuildCasesLemmas.{times_push, cases_can}

-- the frames of later cases are inside those of the switch
pub frames_behind : (later : List Case) (context : ListContext)
    → drop (length later) (case_context later context).frames ≡ context.frames
frames_behind [] context = refl
frames_behind (case ∷ later) context = frames_behind later context

-- the later cases of cases that are spelled
record CasesBehind (s : Setting) (more : List Case) (used : List BlockId) : Type 0 where
  plain : Cases
  newly : List BlockId
  rest : List BlockId
  spelled : SpellsKept s more plain newly
  parts : used ≡ newly ++ rest

behind : {s : Setting} (front more : List Case) {plain : Cases} {used : List BlockId}
    → SpellsKept s (front ++ more) plain used → CasesBehind s more used
behind [] more {plain} {used} d =
    record { plain = plain; newly = used; rest = []; spelled = d; parts = sym (append-nil used) }
behind {s} (case ∷ front) more (one_case {later_used = later} {part_used = part} c d w) =
    let h = behind {s = s} front more c in
    record {
      plain = h.plain;
      newly = h.newly;
      rest = h.rest ++ part;
      spelled = h.spelled;
      parts = w ∙ ap (λ z. z ++ part) h.parts ∙ append_assoc h.newly h.rest part;
    }

-- a list marks its own block
marks_own : {s : Setting} {key : BlockId} {statements : Statements} {blocks : List BlockId} {old new : Marks}
    {before after : List BlockId} → Spells s (FromBlock key) statements blocks
    → MarksBlocks s.hir before after old new blocks → IsUsed new key
marks_own {key = key} {old = old} {new} (from_block {used = used} f l d w) m =
    subst (λ z. is_among z key ≡ true) (sym m.used) (among_back old.used (key ∷ used) key
    (among_front (key ∷ []) used key (among_alone key key (ids_equivalence.refl key))))

-- the block of the last waiting case, or of none
pub ends_at : (waiting : List Case) {result : Option BlockId} {block : BlockId} → result ≡ Some block
    → IfSome result (EndsAt waiting) → EndsAt waiting block
ends_at waiting is last = subst (λ z. IfSome z (EndsAt waiting)) is last

pub ends_nowhere : (waiting : List Case) {result : Option BlockId} → result ≡ None → (IsNone result ↔ (waiting ≡ []))
    → waiting ≡ []
ends_nowhere waiting is none = none.0 (ap is_some is)

-- the loop over the cases: nothing is built yet
pub cases_start : (old : Builder) (site : Site) (kept : List Case) {parts : List ReactiveSwitchCase} → parts ≡ []
    → CanBuildCases old.hir.now old.marks site.handler old.frames kept
    → CasesSoFar old old site kept kept parts site.next
cases_start old site kept none can = record {
  later = [];
  split = sym (append-nil kept);
  plain = NoCases;
  newly = [];
  is = ap reverse none;
  spelled = no_cases;
  marking = marking_none old.hir.now (case_blocks kept) old.marks can.marked;
  can = can;
  setting = refl;
  kept_out = refl;
  count = ap length none;
}

-- the graph is the same where the loop has come
pub cases_setting : {old now : Builder} {site : Site} {kept waiting : List Case} {parts : List ReactiveSwitchCase}
    {next : Option BlockId} → CasesSoFar old now site kept waiting parts next
    → length now.hir.now.body.blocks ≡ length old.hir.now.body.blocks
cases_setting so_far = ap (λ (z : Setting). length z.hir.body.blocks) so_far.setting

-- one case less waits
pub fewer_cases : {waiting front left : List Case} (case : Case) → waiting ≡ front ++ case ∷ [] → left ≡ front
    → length left < length waiting
fewer_cases {waiting} {front} {left} case split taken =
    omega (arith, ap length split, length-append front (case ∷ []), ap length taken)

module _ {old now : Builder} {site : Site} {kept waiting : List Case} {parts : List ReactiveSwitchCase}
    {next : Option BlockId} (front : List Case) (case : Case) (split : waiting ≡ front ++ case ∷ [])
    (so_far : CasesSoFar old now site kept waiting parts next) where
  -- one case more is built
  case_further : (mid : Builder) {new : Builder} {list : List ReactiveStatement} {longer : List ReactiveSwitchCase}
      → BuiltList (setting_of now (record { block = case.block; next = next; handler = site.handler })) case.block list
      (progress_of now)
      (progress_of mid)
      → setting_of mid (record { block = case.block; next = next; handler = site.handler }) ≡ setting_of now
      (record { block = case.block; next = next; handler = site.handler })
      → new.hir.now ≡ mid.hir.now → new.env.now ≡ mid.env.now → new.marks ≡ mid.marks → new.out ≡ mid.out
      → new.frames ≡ frame_kinds.Case case.block ∷ mid.frames → longer ≡ parts ++ switch_case case.test list ∷ []
      → CasesSoFar old new site kept front longer (Some case.block)
  case_further mid {new} {list} {longer} step same h v k o f put =
      let hir : now.hir.now ≡ old.hir.now = same_graph so_far.setting in
      let hirs : new.hir.now ≡ old.hir.now = h ∙ same_graph same ∙ hir in
      let frames : mid.frames ≡ now.frames = ap (λ (z : Setting). z.context.frames) same in
      let one : MarksBlocks now.hir.now (case_blocks waiting) (case_blocks front) now.marks mid.marks step.newly =
      marking_more now.hir.now (λ key. omega (
        arith,
        times_push front case key,
        ap (λ (z : List Case). times key (case_blocks z)) split,
      )) (marking_beside now.hir.now step.marking) in
      let can : CanBuildCases now.hir.now mid.marks site.handler (frame_kinds.Case case.block ∷ now.frames) front =
      cases_can case split so_far.can one (marks_own step.spelled step.marking) in
      record {
        later = case ∷ so_far.later;
        split = so_far.split ∙ ap (λ z. z ++ so_far.later) split ∙ append_assoc front (case ∷ []) so_far.later;
        plain = TreeCase case.test (Present step.value) so_far.plain;
        newly = so_far.newly ++ step.newly;
        is = ap reverse put ∙ reverse-append parts (switch_case case.test list ∷ [])
            ∙ ap (λ z. switch_case case.test z ∷ reverse parts) step.is
            ∙ ap (λ z. switch_case case.test (statements_of step.value) ∷ z) so_far.is;
        spelled = one_case so_far.spelled (subst (λ (z : Setting). Spells z (FromBlock case.block) step.value step.newly)
            so_far.setting step.spelled) refl;
        marking = subst (λ (z : Marks). MarksBlocks old.hir.now (case_blocks kept) (case_blocks front) old.marks z
            (so_far.newly ++ step.newly)) (sym k) (marking_then old.hir.now so_far.marking
            (subst (λ z. MarksBlocks z (case_blocks waiting) (case_blocks front) now.marks mid.marks step.newly) hir one));
        can = subst (λ z. CanBuildCases z new.marks site.handler new.frames front) (sym (hirs ∙ sym hir))
            (subst (λ (z : Marks). CanBuildCases now.hir.now z site.handler new.frames front) (sym k)
            (subst (λ z. CanBuildCases now.hir.now mid.marks site.handler z front)
            (sym (f ∙ ap (λ z. frame_kinds.Case case.block ∷ z) frames)) can));
        setting = after h v f ∙ ap (λ (z : Setting). record {
          hir = z.hir;
          env = z.env;
          context = record {
            next = Some case.block;
            frames = frame_kinds.Case case.block ∷ z.context.frames;
            handler = z.context.handler;
          };
        }) (same ∙ so_far.setting);
        kept_out = o ∙ step.kept ∙ so_far.kept_out;
        count = ap length put ∙ length-append parts (switch_case case.test list ∷ []) ∙ (let n = so_far.count in
            let e : length parts + 1 ≡ suc (length so_far.later) = omega (arith, n) in e);
      }
    where
      after : new.hir.now ≡ mid.hir.now → new.env.now ≡ mid.env.now
          → new.frames ≡ frame_kinds.Case case.block ∷ mid.frames
          → setting_of new (record { block = site.block; next = Some case.block; handler = site.handler }) ≡ record {
            hir = mid.hir.now;
            env = mid.env.now;
            context = record {
              next = Some case.block;
              frames = frame_kinds.Case case.block ∷ mid.frames;
              handler = site.handler;
            };
          }
      after h v f = cc

  -- a case is refused
  case_refused : Refused now.hir.now
      (Spells (setting_of now (record { block = case.block; next = next; handler = site.handler }))
      (FromBlock case.block)) now.marks.used
      → Refused old.hir.now (SpellsKept (setting_of old site) kept) old.marks.used
  case_refused none all blocks d sound =
      go (behind front (case ∷ so_far.later) (subst (λ z. SpellsKept (setting_of old site) z all blocks)
      (so_far.split ∙ ap (λ z. z ++ so_far.later) split ∙ append_assoc front (case ∷ []) so_far.later) d))
    where
      refused : Refused old.hir.now (Spells (setting_after so_far.later (setting_of old site)) (FromBlock case.block))
          now.marks.used
      refused = subst (λ (z : Setting). Refused z.hir (Spells z (FromBlock case.block)) now.marks.used) so_far.setting none

      inner : {plain : Cases} {newly : List BlockId} → SpellsKept (setting_of old site) (case ∷ so_far.later) plain newly
          → AreSound old.hir.now (old.marks.used ++ newly) → ⊥
      inner (one_case {part = part} {part_used = used} c e w) s =
          refused part used e (refused_back old.hir.now old.marks.used so_far.newly used s
          (w ∙ ap (λ z. z ++ used) (one_cases c so_far.spelled).1) so_far.marking.used)

      go : CasesBehind (setting_of old site) (case ∷ so_far.later) blocks → ⊥
      go h = inner h.spelled (refused_front old.hir.now old.marks.used h.newly h.rest sound h.parts)

module _ {old now : Builder} {site : Site} {kept waiting : List Case} {parts : List ReactiveSwitchCase}
    {next : Option BlockId} (front : List Case) (case : Case) (split : waiting ≡ front ++ case ∷ []) {block : BlockId}
    (is : case.block ≡ block) (so_far : CasesSoFar old now site kept waiting parts next) where
  abbrev here : Site
  here = record { block = block; next = next; handler = site.handler }

  -- the same of the block that the last case has
  pub cases_further : (mid : Builder) {new : Builder} {list : List ReactiveStatement} {longer : List ReactiveSwitchCase}
      {left : List Case} → BuiltList (setting_of now here) block list (progress_of now) (progress_of mid)
      → setting_of mid here ≡ setting_of now here
      → new.hir.now ≡ mid.hir.now → new.env.now ≡ mid.env.now → new.marks ≡ mid.marks → new.out ≡ mid.out
      → new.frames ≡ frame_kinds.Case block ∷ mid.frames → longer ≡ parts ++ switch_case case.test list ∷ []
      → left ≡ front → CasesSoFar old new site kept left longer (Some block)
  cases_further mid {list = list} step same h v k o f put taken =
      rw (taken, sym is) (case_further front case split so_far mid
      (subst (λ (z : BlockId). BuiltList (setting_of now here) z list (progress_of now) (progress_of mid)) (sym is) step)
      same h v k o (f ∙ ap (λ z. frame_kinds.Case z ∷ mid.frames) (sym is)) put)

  pub cases_refused : Refused now.hir.now (Spells (setting_of now here) (FromBlock block)) now.marks.used
      → Refused old.hir.now (SpellsKept (setting_of old site) kept) old.marks.used
  cases_refused none = case_refused front case split so_far
      (subst (λ z. Refused now.hir.now (Spells (setting_of now here) (FromBlock z)) now.marks.used) (sym is) none)

-- the cases are built
pub cases_done : {old now : Builder} {site : Site} {kept waiting : List Case} {parts : List ReactiveSwitchCase}
    {next : Option BlockId} → waiting ≡ [] → CasesSoFar old now site kept waiting parts next
    → BuiltCases (setting_of old site) kept (reverse parts) (progress_of old) (progress_of now)
cases_done {old} {now} {site} {kept} {waiting} e so_far = record {
  value = so_far.plain;
  newly = so_far.newly;
  is = so_far.is;
  spelled = subst (λ z. SpellsKept (setting_of old site) z so_far.plain so_far.newly) (sym whole) so_far.spelled;
  marking = subst (λ (z : List Case). MarksBlocks old.hir.now (case_blocks kept) (case_blocks z) old.marks now.marks
      so_far.newly) e so_far.marking;
  kept = so_far.kept_out;
}
  where
    whole : kept ≡ so_far.later
    whole = so_far.split ∙ ap (λ z. z ++ so_far.later) e

-- the frames of the cases are left
pub cases_left : {old now : Builder} {site : Site} {kept waiting : List Case} {parts : List ReactiveSwitchCase}
    {next : Option BlockId} {frames : List Frame} → CasesSoFar old now site kept waiting parts next
    → frames ≡ drop (length parts) now.frames
    → setting_of (record now { frames = frames }) site ≡ setting_of old site
cases_left {old} {now} {site} {parts = parts} {frames = frames} so_far e =
    let hir : now.hir.now ≡ old.hir.now = same_graph so_far.setting in
    let env : now.env.now ≡ old.env.now = ap (λ (z : Setting). z.env) so_far.setting in
    let left : frames ≡ old.frames = e ∙ ap (λ n. drop n now.frames) so_far.count
    ∙ ap (λ (z : Setting). drop (length so_far.later) z.context.frames) so_far.setting
    ∙ frames_behind so_far.later (setting_of old site).context in
    cc
