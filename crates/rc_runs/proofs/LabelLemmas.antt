-- Labels that name the same block act alike on completions; whether a label is implicit plays no part.
use Rattle.std.proofs.Common.{◌≡◌, Option, None, Some, if◌then◌else◌, refl, ap}
use Rattle.rc_names.specs.Numbers.{BlockId, same_id}
use Rattle.rc_tree.specs.Model.{ReactiveLabel}
use Rattle.rc_runs.specs.Completion.{Completion, Normal, BreakTo, BreakInnermost, ContinueTo, ContinueLoop, Ended, caught}
use Rattle.rc_runs.specs.Completion.{turns_again, caught_unlabeled}

-- the block that a label names, if there is a label
abbrev pub named_block : Option ReactiveLabel → Option BlockId
named_block None = None
named_block (Some label) = Some label.id

-- both labels name the same block, or neither is there
abbrev pub NameAlike : Option ReactiveLabel → Option ReactiveLabel → Type 0
NameAlike label label' = named_block label ≡ named_block label'

-- they catch the same breaks
pub caught-alike : (label label' : Option ReactiveLabel) → NameAlike label label' → (outcome : Completion) →
    caught label outcome ≡ caught label' outcome
caught-alike None None alike outcome = refl
caught-alike None (Some label') alike outcome = absurd (let bad : ⊥ = cc in bad)
caught-alike (Some label) None alike outcome = absurd (let bad : ⊥ = cc in bad)
caught-alike (Some label) (Some label') alike (BreakTo target) =
    ap (λ id. if same_id id target then Normal else BreakTo target)
    (let same : label.id ≡ label'.id = cc in same)
caught-alike (Some label) (Some label') alike Normal = refl
caught-alike (Some label) (Some label') alike BreakInnermost = refl
caught-alike (Some label) (Some label') alike (ContinueTo target) = refl
caught-alike (Some label) (Some label') alike ContinueLoop = refl
caught-alike (Some label) (Some label') alike (Ended end) = refl

-- their loops begin the next turn after the same completions
pub turns_again-alike : (label label' : Option ReactiveLabel) → NameAlike label label' → (outcome : Completion) →
    turns_again label outcome ≡ turns_again label' outcome
turns_again-alike None None alike outcome = refl
turns_again-alike None (Some label') alike outcome = absurd (let bad : ⊥ = cc in bad)
turns_again-alike (Some label) None alike outcome = absurd (let bad : ⊥ = cc in bad)
turns_again-alike (Some label) (Some label') alike (ContinueTo target) =
    ap (λ id. same_id id target) (let same : label.id ≡ label'.id = cc in same)
turns_again-alike (Some label) (Some label') alike Normal = refl
turns_again-alike (Some label) (Some label') alike (BreakTo target) = refl
turns_again-alike (Some label) (Some label') alike BreakInnermost = refl
turns_again-alike (Some label) (Some label') alike ContinueLoop = refl
turns_again-alike (Some label) (Some label') alike (Ended end) = refl

-- and they are left alike
pub caught_unlabeled-alike : (label label' : Option ReactiveLabel) → NameAlike label label' → (outcome : Completion) →
    caught_unlabeled label outcome ≡ caught_unlabeled label' outcome
caught_unlabeled-alike label label' alike BreakInnermost = refl
caught_unlabeled-alike label label' alike Normal = caught-alike label label' alike Normal
caught_unlabeled-alike label label' alike (BreakTo target) = caught-alike label label' alike (BreakTo target)
caught_unlabeled-alike label label' alike (ContinueTo target) = caught-alike label label' alike (ContinueTo target)
caught_unlabeled-alike label label' alike ContinueLoop = caught-alike label label' alike ContinueLoop
caught_unlabeled-alike label label' alike (Ended end) = caught-alike label label' alike (Ended end)
