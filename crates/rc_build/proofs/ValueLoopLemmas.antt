-- The two loops over the rows of a value: forward to its last block, and back.
use Rattle.std.proofs.Common.{◌≡◌, ℕ, Bool, List, [], ◌∷◌, ◌++◌, Option, Some, None, refl, sym, ap, ◌∙◌}
use Rattle.std.proofs.Common.{append_assoc, arith, subst, IfSome}
use Rattle.std.specs.Prelude.{◌↔◌, IsNone, is_some}
use Rattle.rc_names.specs.Numbers.{BlockId, times}
use Rattle.rc_hir.specs.Model.{HirFunction}
use Rattle.rc_runs.specs.PlainTree.{Value}
use Rattle.rc_runs.specs.ValueEnd.{ValueEnd}
use Rattle.rc_runs.specs.ShortArms.{SpellsShortArm}
use Rattle.rc_runs.specs.ValueGrammar.{SpellsValue}
use Rattle.rc_runs.proofs.OneValue.{one_value}
use Rattle.rc_build.specs.declared.builder.Builder.{Builder}
use Rattle.rc_build.specs.declared.builder.Marks.{Marks}
use Rattle.rc_build.specs.declared.builder.Site.{Site}
use Rattle.rc_build.specs.declared.values.Around.{Around}
use Rattle.rc_build.specs.declared.values.BuiltValue.{BuiltValue}
use Rattle.rc_build.specs.declared.value_steps.Step.{Step}
use Rattle.rc_build.specs.declared.value_steps.ValueRow.{ValueRow}
use Rattle.rc_build.specs.References.{referenced_blocks}
use Rattle.rc_build.specs.inside.Built.{Refused}
use Rattle.rc_build.specs.inside.CanBuild.{AreReferenced}
use Rattle.rc_build.specs.inside.Marks.{MarksBlocks}
use Rattle.rc_build.specs.inside.Setting.{Setting, setting_of}
use Rattle.rc_build.specs.inside.Task.{progress_of}
use Rattle.rc_build.specs.inside.ValueSteps.{step_at, value_at}
use Rattle.rc_build.specs.inside.ShortArms.{CanBuildShort, arm_blocks, alternate_of}
use Rattle.rc_build.specs.inside.StepRows.{CanBuildStep, IsStep, RowBuilt}
use Rattle.rc_build.specs.inside.ValueLoops.{BackSoFar, PutBehind, RowsSoFar, arms_of_rows, no_row, one_more}
use Rattle.rc_build.specs.inside.ValueLoops.{row_answers, value_behind}
use Rattle.rc_build.specs.inside.ValueEnds.{CanBuildLast}
use Rattle.rc_build.specs.inside.Values.{CanBuildValue, HasNoValue, IsBuilt, ValueBuilt, any_end}
use Rattle.rc_build.proofs.BuiltLemmas.{marking_drop, marking_none, marking_then, marking_beside, refused_back, refused_front}
use Rattle.rc_build.proofs.MarksLemmas.{referenced_fewer, times_append}
use Rattle.rc_build.proofs.StepLemmas.{step_there}
use Rattle.rc_build.proofs.ValueRowLemmas.{arms_times, lead_last, lead_none, lead_only, rows_of_step, step_only, step_rows}
use Rattle.rc_build.proofs.ValueRowLemmas.{step_short, step_valued, step_value}
use Rattle.rc_build.proofs.WalkLemmas.{none_used}

-- further references stay pending beside those that blocks leave
pub marking_kept : {hir : HirFunction} {before after : List BlockId} (more : List BlockId) {old new : Marks}
    {xs : List BlockId} → MarksBlocks hir before after old new xs → MarksBlocks hir (before ++ more) (after ++ more) old new xs
marking_kept {hir} {before} {after} more {old} {new} f = record {
  used = f.used;
  marked = f.marked;
  referenced = λ others h. subst (AreReferenced hir new.used) (sym (append_assoc after more others))
      (f.referenced (more ++ others) (subst (AreReferenced hir old.used) (append_assoc before more others) h));
}

-- the last row that waits, or none, as it is taken
pub popped_last : (waiting front : List ValueRow) {result : Option ValueRow} {row : ValueRow} → result ≡ Some row
    → IfSome result (λ last. waiting ≡ front ++ last ∷ []) → waiting ≡ front ++ row ∷ []
popped_last waiting front is last = subst (λ z. IfSome z (λ x. waiting ≡ front ++ x ∷ [])) is last

-- and the same row out of its box
pub opened_last : (waiting front : List ValueRow) {row opened : ValueRow} → opened ≡ row → waiting ≡ front ++ row ∷ []
    → waiting ≡ front ++ opened ∷ []
opened_last waiting front is last = subst (λ z. waiting ≡ front ++ z ∷ []) (sym is) last

pub popped_none : (waiting : List ValueRow) {result : Option ValueRow} → result ≡ None
    → (IsNone result ↔ (waiting ≡ [])) → waiting ≡ []
popped_none waiting is none = none.0 (ap is_some is)

-- what was built, said of the same graph
pub built_at : {hir other : HirFunction} {value : Value} {end : ValueEnd} {built : BuiltValue} → other ≡ hir
    → IsBuilt hir value end built → IsBuilt other value end built
built_at {value = value} {end} {built} same is = subst (λ z. IsBuilt z value end built) (sym same) is

module _ {old : Builder} {key : BlockId} {around : Around} where
  -- nothing is built yet
  pub rows_start : {rows : List ValueRow} → rows ≡ [] → CanBuildValue old.hir.now old.marks key
      → RowsSoFar old old key around rows key
  rows_start none can = subst (λ z. RowsSoFar old old key around z key) (sym none) (record {
    newly = [];
    lead = no_row;
    marking = marking_none old.hir.now (key ∷ []) old.marks can.can.marked;
    valued = can.referenced;
    kept = refl;
    setting = λ site. refl;
  })

  -- what is left of the stack is no part of how far it has come
  pub any_stack : {now : Builder} {rows : List ValueRow} {at : BlockId} (stack : ℕ)
      → RowsSoFar old now key around rows at → RowsSoFar old (record now { stack = stack }) key around rows at
  any_stack stack s = record {
    newly = s.newly;
    lead = s.lead;
    marking = s.marking;
    valued = s.valued;
    kept = s.kept;
    setting = s.setting;
  }

  module _ {now : Builder} where
    module _ {rows : List ValueRow} {at : BlockId} (s : RowsSoFar old now key around rows at)
        (can : CanBuildValue old.hir.now old.marks key) where
      -- the value goes on there
      go_on : CanBuildValue old.hir.now now.marks at
      go_on = record {
        can = record {
          marked = s.marking.marked;
          handled = tt;
          referenced = referenced_fewer old.hir.now now.marks.used (at ∷ []) ((at ∷ arms_of_rows rows) ++ [])
              (λ other. omega (arith, times_append other (arms_of_rows rows) [])) (s.marking.referenced [] can.can.referenced);
          used_before = none_used now.marks;
          owned = tt;
        };
        referenced = s.valued;
      }

      pub further_can : (site : Site) (step : Step) → step_at now.hir.now at ≡ Some step
          → CanBuildStep now.hir.now now.marks at step
      further_can site step found = record {
        can = subst (λ (z : Setting). CanBuildValue z.hir now.marks at) (sym (s.setting site)) go_on;
        here = step_there now.hir.now at step found;
      }

      pub last_can : (site : Site) → step_at now.hir.now at ≡ None → CanBuildLast now.hir.now now.marks at
      last_can site none = record {
        can = subst (λ (z : Setting). CanBuildValue z.hir now.marks at) (sym (s.setting site)) go_on;
        ends = none;
      }

    -- a value that is refused after the rows is refused
    pub rows_refused : {rows : List ValueRow} {at : BlockId} {is_test : Bool} (site : Site)
        → RowsSoFar old now key around rows at
        → HasNoValue now.hir.now now.env.now at (value_at around is_test) any_end now.marks.used
        → HasNoValue old.hir.now old.env.now key (value_at around is_test) any_end old.marks.used
    rows_refused {at = at} {is_test} site s none value end blocks d asked sound =
        let h = lead_only s.lead d in
        subst (λ (z : Setting). HasNoValue z.hir z.env at (value_at around is_test) any_end now.marks.used) (s.setting site)
        none h.value h.end h.used h.spelled tt (refused_front old.hir.now now.marks.used h.used h.rest
        (refused_back old.hir.now old.marks.used s.newly (h.used ++ h.rest) sound h.whole s.marking.used) refl)

    module _ {new : Builder} (site : Site) (same : (site : Site) → setting_of new site ≡ setting_of now site) where
      -- one more row
      pub rows_further : {rows : List ValueRow} {at : BlockId} {row : ValueRow} → RowsSoFar old now key around rows at
          → RowBuilt now.hir.now (IsStep now.hir.now now.env.now around at) at row (progress_of now) (progress_of new)
          → RowsSoFar old new key around (rows ++ row ∷ []) row.next
      rows_further {rows} {at} {row} s built =
          let b = subst (λ (z : Setting). RowBuilt z.hir (IsStep z.hir z.env around at) at row (progress_of now)
          (progress_of new)) (s.setting site) built in record {
            newly = s.newly ++ b.newly;
            lead = one_more row s.lead b.is;
            marking = marking_then old.hir.now s.marking (marking_drop old.hir.now (λ other. omega (
              arith,
              arms_times other rows row,
              times_append other (row.next ∷ arm_blocks row.short) (arms_of_rows rows),
            )) (marking_kept (arms_of_rows rows) b.marking));
            valued = step_valued b.is;
            kept = b.kept ∙ s.kept;
            setting = λ site. same site ∙ s.setting site;
          }

      -- the last block
      pub back_start : {rows : List ValueRow} {at : BlockId} {is_test : Bool} {built : BuiltValue}
          → RowsSoFar old now key around rows at
          → ValueBuilt now.hir.now now.env.now at (value_at around is_test) any_end built (progress_of now) (progress_of new)
          → BackSoFar old new key around is_test rows built
      back_start {rows} {at} {is_test} {built} s value =
          let b = subst (λ (z : Setting). ValueBuilt z.hir z.env at (value_at around is_test) any_end built (progress_of now)
          (progress_of new)) (s.setting site) value in record {
            at = at;
            newly = s.newly;
            back = b.newly;
            value = b.value;
            end = b.end;
            lead = s.lead;
            is = b.is;
            spelled = b.spelled;
            marking = marking_then old.hir.now s.marking (marking_kept (arms_of_rows rows) b.marking);
            kept = b.kept ∙ s.kept;
            setting = λ site. same site ∙ s.setting site;
          }

      -- the last row is put before the value
      pub back_further : {all rows : List ValueRow} {row : ValueRow} {is_test : Bool} {built whole : BuiltValue}
          (s : BackSoFar old now key around is_test all built) → all ≡ rows ++ row ∷ []
          → PutBehind now.hir.now now.env.now around.handler row is_test s.value s.end whole (progress_of now) (progress_of new)
          → BackSoFar old new key around is_test rows whole
      back_further {all} {rows} {row} {is_test} {built} {whole} s e put =
          let p = subst (λ (z : Setting). PutBehind z.hir z.env around.handler row is_test s.value s.end whole (progress_of now)
          (progress_of new)) (s.setting site) put in
          let l = lead_last rows row s.lead e in
          let value = subst (λ z. SpellsValue old.hir.now old.env.now z (value_at around is_test) s.value s.end s.back)
          l.at_is s.spelled in record {
            at = l.mid;
            newly = l.front;
            back = l.used ++ (s.back ++ p.newly);
            value = value_behind (rows_of_step l.is) s.end.id s.value;
            end = record s.end { left_open = p.left };
            lead = l.lead;
            is = p.is (rows_of_step l.is) (step_rows l.is);
            spelled = step_value l.is value p.arm;
            marking = subst (MarksBlocks old.hir.now (key ∷ []) (referenced_blocks s.end.last ++ arms_of_rows rows) old.marks
                new.marks) (joined l.front l.used s.back p.newly s.newly l.whole)
                (marking_then old.hir.now (marking_drop old.hir.now (λ other. omega (
                  arith,
                  ap (λ z. times other (arms_of_rows z)) e,
                  arms_times other rows row,
                  times_append other (arm_blocks row.short) (referenced_blocks s.end.last ++ arms_of_rows rows),
                  times_append other (referenced_blocks s.end.last) (arms_of_rows rows),
                  times_append other (referenced_blocks s.end.last) (arms_of_rows all),
                )) s.marking) (marking_beside old.hir.now p.marking));
            kept = p.kept ∙ s.kept;
            setting = λ site. same site ∙ s.setting site;
          }
        where
          joined : (front used back arm newly : List BlockId) → newly ≡ front ++ used
              → (newly ++ back) ++ arm ≡ front ++ (used ++ (back ++ arm))
          joined front used back arm newly e = append_assoc newly back arm ∙ ap (λ z. z ++ (back ++ arm)) e
              ∙ append_assoc front used (back ++ arm)

    module _ {all : List ValueRow} (rows : List ValueRow) (row : ValueRow) {is_test : Bool} {built : BuiltValue}
        (s : BackSoFar old now key around is_test all built) (e : all ≡ rows ++ row ∷ []) where
      -- the short arm of the last row can be built
      pub short_can : CanBuildValue old.hir.now old.marks key → (site : Site)
          → CanBuildShort now.hir.now now.marks row.short
      short_can can site = subst (λ (z : Setting). CanBuildShort z.hir now.marks row.short) (sym (s.setting site)) (record {
        marked = s.marking.marked;
        referenced = referenced_fewer old.hir.now now.marks.used (arm_blocks row.short)
            ((referenced_blocks s.end.last ++ arms_of_rows all) ++ []) (λ other. omega (
              arith,
              ap (λ z. times other (arms_of_rows z)) e,
              arms_times other rows row,
              times_append other (referenced_blocks s.end.last ++ arms_of_rows all) [],
              times_append other (referenced_blocks s.end.last) (arms_of_rows all),
            )) (s.marking.referenced [] can.can.referenced);
        short_is = step_short (lead_last rows row s.lead e).is;
      })

      -- a value whose short arm is refused is refused
      pub back_refused : (site : Site)
          → Refused now.hir.now (SpellsShortArm now.hir.now now.env.now around.handler row.next
          (row_answers now.env.now is_test row.answer s.value) (alternate_of row.short) s.end.left_open) now.marks.used
          → HasNoValue old.hir.now old.env.now key (value_at around is_test) any_end old.marks.used
      back_refused site none value end blocks d asked sound =
          let l = lead_last rows row s.lead e in
          let h = lead_only l.lead d in
          let k = step_only l.is h.spelled in
          let here = subst (λ z. SpellsValue old.hir.now old.env.now z (value_at around is_test) s.value s.end s.back)
          l.at_is s.spelled in
          let one = one_value k.spelled here in
          let arm = subst (λ z. SpellsShortArm old.hir.now old.env.now around.handler row.next
          (row_answers old.env.now is_test row.answer z) (alternate_of row.short) s.end.left_open k.left k.arm_used) one.0
          (subst (λ (z : ValueEnd). SpellsShortArm old.hir.now old.env.now around.handler row.next
          (row_answers old.env.now is_test row.answer k.value) (alternate_of row.short) z.left_open k.left k.arm_used) one.1
          k.arm) in
          subst (λ (z : Setting). Refused z.hir (SpellsShortArm z.hir z.env around.handler row.next
          (row_answers z.env is_test row.answer s.value) (alternate_of row.short) s.end.left_open) now.marks.used)
          (s.setting site) none k.left k.arm_used arm
          (refused_front old.hir.now now.marks.used k.arm_used h.rest
          (refused_back old.hir.now old.marks.used (s.newly ++ s.back) (k.arm_used ++ h.rest) sound
          (h.whole ∙ ap (λ z. l.front ++ (z ++ h.rest)) k.whole
          ∙ joined l.front l.used k.value_used k.arm_used h.rest
          ∙ ap (λ z. (l.front ++ l.used) ++ (z ++ (k.arm_used ++ h.rest))) one.2
          ∙ ap (λ z. z ++ (s.back ++ (k.arm_used ++ h.rest))) (sym l.whole)
          ∙ sym (append_assoc s.newly s.back (k.arm_used ++ h.rest))) s.marking.used) refl)
        where
          joined : (front used value arm rest : List BlockId) → front ++ ((used ++ (value ++ arm)) ++ rest)
              ≡ (front ++ used) ++ (value ++ (arm ++ rest))
          joined front used value arm rest =
              ap (λ z. front ++ z) (append_assoc used (value ++ arm) rest ∙ ap (λ z. used ++ z) (append_assoc value arm rest))
              ∙ sym (append_assoc front used (value ++ (arm ++ rest)))

    -- all rows are put before the value
    pub back_done : {rows : List ValueRow} {is_test : Bool} {built : BuiltValue}
        → BackSoFar old now key around is_test rows built → rows ≡ []
        → ValueBuilt old.hir.now old.env.now key (value_at around is_test) any_end built (progress_of old) (progress_of now)
    back_done {rows} {is_test} s e =
        let l = lead_none s.lead e in record {
          value = s.value;
          end = s.end;
          newly = s.back;
          is = s.is;
          spelled = subst (λ z. SpellsValue old.hir.now old.env.now z (value_at around is_test) s.value s.end s.back) l.0
              s.spelled;
          ends = tt;
          marking = subst (MarksBlocks old.hir.now (key ∷ []) (referenced_blocks s.end.last) old.marks now.marks)
              (ap (λ z. z ++ s.back) l.1)
              (marking_drop old.hir.now (λ other. omega (
                arith,
                times_append other (referenced_blocks s.end.last) (arms_of_rows rows),
              )) s.marking);
          kept = s.kept;
        }
