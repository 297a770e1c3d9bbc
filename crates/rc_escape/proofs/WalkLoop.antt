-- The loop over the stack of frames.
use Rattle.std.proofs.Common.{◌≡◌, ◌+◌, ◌<◌, ◌++◌, List, [], ◌∷◌, arith, refl, reverse, subst, sym}
use Rattle.rc_escape.specs.MemoWalk.{Progress}
use Rattle.rc_memo.specs.declared.row_record.RowRecord.{RowRecord}
use Rattle.rc_escape.specs.declared.walk_state.WalkState.{WalkState}
use Rattle.rc_escape.specs.declared.walk_state.VisitFrame.{VisitFrame}
use Rattle.rc_escape.specs.inside.WalkFrames.{Continues, Finishes, ResumesFrame}
use Rattle.rc_escape.specs.inside.WalkWork.{steps_left, work}
use Rattle.rc_escape.proofs.ListLemmas.{reverse-push}
use Rattle.rc_escape.proofs.WorkLemmas.{work-push}

pub loop_begins : (r : RowRecord) (frames : List VisitFrame) (s : Progress) → Continues r frames s frames s
unfolding Continues
loop_begins r frames s t e = e

pub loop_goes_on : (r : RowRecord) (stack rest later first : List VisitFrame) (s s1 s0 : Progress) (frame : VisitFrame)
    → Continues r (reverse stack) s first s0 → stack ≡ rest ++ frame ∷ []
    → ResumesFrame r later s1 frame (reverse rest) s → Continues r later s1 first s0
unfolding Continues ResumesFrame Finishes
loop_goes_on r stack rest later first s s1 s0 frame so pop resumes t e =
    so t (subst (λ w. Finishes r w s t) (sym (reverse-push rest stack frame pop)) (resumes t e))

pub loop_ends : (r : RowRecord) (stack first : List VisitFrame) (s s0 : Progress) → stack ≡ []
    → Continues r (reverse stack) s first s0 → Finishes r first s0 s
unfolding Continues Finishes
loop_ends r stack first s s0 e so = let at = subst (λ w. Continues r (reverse w) s first s0) e so in at s refl

pub loop_less : (r : RowRecord) (s s1 : WalkState) (stack rest later : List VisitFrame) (frame : VisitFrame)
    → stack ≡ rest ++ frame ∷ []
    → work r s1 later < work r s rest + steps_left r frame → work r s1 later < work r s stack
loop_less r s s1 stack rest later frame e less = omega (arith, work-push r s rest stack frame e)
