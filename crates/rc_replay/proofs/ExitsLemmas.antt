-- The exits of a part of a statement lead where those of the statement do.
use Rattle.std.proofs.Common.{◌≡◌, ℕ, Bool, true, false, Option, Some, None, refl, sym, ap, ◌∙◌}
use Rattle.std.specs.Prelude.{if◌then◌else◌}
use Rattle.rc_names.specs.Numbers.{BlockId, same_id}
use Rattle.rc_tree.specs.Model.{ReactiveLabel}
use Rattle.rc_runs.specs.Event.{End}
use Rattle.rc_runs.specs.Completion.{Completion, Normal, BreakTo, BreakInnermost, ContinueTo, ContinueLoop, Ended}
use Rattle.rc_runs.specs.Completion.{leaves, caught, turns_again, caught_unlabeled}
use Rattle.rc_replay.specs.inside.Exits.{Exits, is_over, exit, before, labeled, protected, in_switch, in_loop}
use Rattle.rc_replay.specs.inside.Exits.{break_exit, continue_exit, continue_or}

-- only an end ends the run
pub ended : (outcome : Completion) → is_over outcome ≡ true → (end : End) × (outcome ≡ Ended end)
ended Normal h = absurd (let bad : ⊥ = cc in bad)
ended (BreakTo target) h = absurd (let bad : ⊥ = cc in bad)
ended BreakInnermost h = absurd (let bad : ⊥ = cc in bad)
ended (ContinueTo target) h = absurd (let bad : ⊥ = cc in bad)
ended ContinueLoop h = absurd (let bad : ⊥ = cc in bad)
ended (Ended end) h = (end, refl)

-- a label catches no end, and a break that it catches ends nothing
pub caught-over : (label : Option ReactiveLabel) (outcome : Completion) → is_over (caught label outcome) ≡ is_over outcome
caught-over None outcome = refl
caught-over (Some label) (BreakTo target) = by (same_id label.id target)
  where
    by : (same : Bool) → is_over (if same then Normal else BreakTo target) ≡ false
    by true = refl
    by false = refl
caught-over (Some label) Normal = refl
caught-over (Some label) BreakInnermost = refl
caught-over (Some label) (ContinueTo target) = refl
caught-over (Some label) ContinueLoop = refl
caught-over (Some label) (Ended end) = refl

pub caught_unlabeled-over : (label : Option ReactiveLabel) (outcome : Completion)
    → is_over (caught_unlabeled label outcome) ≡ is_over outcome
caught_unlabeled-over label BreakInnermost = refl
caught_unlabeled-over label Normal = caught-over label Normal
caught_unlabeled-over label (BreakTo target) = caught-over label (BreakTo target)
caught_unlabeled-over label (ContinueTo target) = caught-over label (ContinueTo target)
caught_unlabeled-over label ContinueLoop = caught-over label ContinueLoop
caught_unlabeled-over label (Ended end) = caught-over label (Ended end)

ended-caught : (label : Option ReactiveLabel) (end : End) → caught label (Ended end) ≡ Ended end
ended-caught None end = refl
ended-caught (Some label) end = refl

-- what a statement makes of the completion of a part leaves ends as they are, and makes none
pub record Catches (whole : Completion → Completion) : Type 0 where
  pub over : (end : End) → whole (Ended end) ≡ Ended end
  pub alike : (outcome : Completion) → is_over (whole outcome) ≡ is_over outcome

pub caught-catches : (label : Option ReactiveLabel) → Catches (caught label)
caught-catches label = record { over = ended-caught label; alike = caught-over label }

pub caught_unlabeled-catches : (label : Option ReactiveLabel) → Catches (caught_unlabeled label)
caught_unlabeled-catches label = record { over = ended-caught label; alike = caught_unlabeled-over label }

-- a completion that begins the next turn doesn't end the run
pub turns-go_on : (label : Option ReactiveLabel) (outcome : Completion) → turns_again label outcome ≡ true
    → is_over outcome ≡ false
turns-go_on label Normal again = refl
turns-go_on label (BreakTo target) again = refl
turns-go_on label BreakInnermost again = refl
turns-go_on label (ContinueTo target) again = refl
turns-go_on label ContinueLoop again = refl
turns-go_on label (Ended end) again = absurd (let bad : ⊥ = cc in bad)

module _ (exits : Exits) where
  -- a break under a label, of a loop or not
  break_leads : (label : ReactiveLabel) (target : BlockId)
      → (if same_id label.id target then exits.normal else break_exit exits.labels target)
      ≡ exit exits (if same_id label.id target then Normal else BreakTo target)
  break_leads label target = by (same_id label.id target)
    where
      by : (same : Bool) → (if same then exits.normal else break_exit exits.labels target)
          ≡ exit exits (if same then Normal else BreakTo target)
      by true = refl
      by false = refl

  -- in a statement with a label
  pub labeled-leads : (label : Option ReactiveLabel) (outcome : Completion)
      → exit (labeled label exits) outcome ≡ exit exits (caught label outcome)
  labeled-leads None Normal = refl
  labeled-leads None (BreakTo target) = refl
  labeled-leads None BreakInnermost = refl
  labeled-leads None (ContinueTo target) = refl
  labeled-leads None ContinueLoop = refl
  labeled-leads None (Ended end) = refl
  labeled-leads (Some label) Normal = refl
  labeled-leads (Some label) (BreakTo target) = break_leads label target
  labeled-leads (Some label) BreakInnermost = refl
  labeled-leads (Some label) (ContinueTo target) = refl
  labeled-leads (Some label) ContinueLoop = refl
  labeled-leads (Some label) (Ended end) = refl

  -- a protected block has the exits of any part
  pub protected-leads : (label : Option ReactiveLabel) (outcome : Completion)
      → exit (protected label exits) outcome ≡ exit (labeled label exits) outcome
  protected-leads label Normal = refl
  protected-leads label (BreakTo target) = refl
  protected-leads label BreakInnermost = refl
  protected-leads label (ContinueTo target) = refl
  protected-leads label ContinueLoop = refl
  protected-leads label (Ended end) = refl

  -- in a switch
  pub in_switch-leads : (label : Option ReactiveLabel) (outcome : Completion)
      → exit (in_switch label exits) outcome ≡ exit exits (caught_unlabeled label outcome)
  in_switch-leads label BreakInnermost = refl
  in_switch-leads label Normal = labeled-leads label Normal
  in_switch-leads label (BreakTo target) = labeled-leads label (BreakTo target)
  in_switch-leads label (ContinueTo target) = labeled-leads label (ContinueTo target)
  in_switch-leads label ContinueLoop = labeled-leads label ContinueLoop
  in_switch-leads label (Ended end) = labeled-leads label (Ended end)

  -- in a loop, to its next turn
  pub turn_leads : (label : Option ReactiveLabel) (turn : ℕ) (outcome : Completion) → turns_again label outcome ≡ true
      → exit (in_loop label turn exits) outcome ≡ turn
  turn_leads label turn Normal again = refl
  turn_leads label turn (BreakTo target) again = absurd (let bad : ⊥ = cc in bad)
  turn_leads label turn BreakInnermost again = absurd (let bad : ⊥ = cc in bad)
  turn_leads None turn (ContinueTo target) again = absurd (let bad : ⊥ = cc in bad)
  turn_leads (Some label) turn (ContinueTo target) again =
      ap (λ named. continue_or (Some turn) named (continue_exit exits.labels target)) again
  turn_leads label turn ContinueLoop again = refl
  turn_leads label turn (Ended end) again = absurd (let bad : ⊥ = cc in bad)

  -- in a loop, out of it
  pub out_leads : (label : Option ReactiveLabel) (turn : ℕ) (outcome : Completion) → turns_again label outcome ≡ false
      → exit (in_loop label turn exits) outcome ≡ exit exits (caught_unlabeled label outcome)
  out_leads label turn Normal left = absurd (let bad : ⊥ = cc in bad)
  out_leads None turn (BreakTo target) left = refl
  out_leads (Some label) turn (BreakTo target) left = break_leads label target
  out_leads label turn BreakInnermost left = refl
  out_leads None turn (ContinueTo target) left = refl
  out_leads (Some label) turn (ContinueTo target) left =
      ap (λ named. continue_or (Some turn) named (continue_exit exits.labels target)) left
  out_leads label turn ContinueLoop left = absurd (let bad : ⊥ = cc in bad)
  out_leads None turn (Ended end) left = refl
  out_leads (Some label) turn (Ended end) left = refl

  -- before another statement, past it
  pub before-leads : (next : ℕ) (outcome : Completion) → leaves outcome ≡ true
      → exit (before next exits) outcome ≡ exit exits outcome
  before-leads next Normal l = absurd (let bad : ⊥ = cc in bad)
  before-leads next (BreakTo target) l = refl
  before-leads next BreakInnermost l = refl
  before-leads next (ContinueTo target) l = refl
  before-leads next ContinueLoop l = refl
  before-leads next (Ended end) l = refl
