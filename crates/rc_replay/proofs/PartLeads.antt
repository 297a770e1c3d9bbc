-- Where a run leads that begins at the first position of a part.
--
-- Such a run ends in the part, or completes it and goes on where the completion leads. `Below` is the claim for the
-- turns of loops, with fewer steps.
use Rattle.std.proofs.Common.{◌≡◌, ◌⊎◌, inl, inr, ℕ, suc, ◌<◌, List, [], ◌++◌, Option, true, false, refl, sym, ap, ◌∙◌}
use Rattle.std.proofs.Common.{subst, append_assoc, arith}
use Rattle.rc_hir.specs.Model.{Environment}
use Rattle.rc_tree.specs.Model.{ReactiveLabel}
use Rattle.rc_runs.specs.Event.{Event, End, Open}
use Rattle.rc_runs.specs.LoopParts.{LoopParts}
use Rattle.rc_runs.specs.Completion.{Completion, Normal, Ended, leaves}
use Rattle.rc_runs.specs.BodyRun.{AtTurn, RunsLoop}
use Rattle.rc_runs.proofs.FramesLemmas.{by_leaves}
use Rattle.rc_replay.specs.inside.Positions.{Table, FollowsAt}
use Rattle.rc_replay.specs.inside.Exits.{Exits, is_over, exit, before, may_end}
use Rattle.rc_replay.specs.inside.Lowered.{LowersLoop}
use Rattle.rc_replay.proofs.FollowsSize.{size_at, from_equal}
use Rattle.rc_replay.proofs.ExitsLemmas.{Catches, before-leads}

-- the runs of a part of a tree
abbrev pub Runs : Type 1
Runs = List Event → Completion → Type 0

module _ (table : Table) where
  -- a run begins at a part that has the runs `R`: it ends there, or goes on where the part's completion leads
  pub data Leads (exits : Exits) (bound : ℕ) (R : Runs) (events : List Event) (end : End) : Type 0 where
    ends_here : R events (Ended end) → may_end exits.throws end ≡ true → Leads exits bound R events end
    leads : {front back : List Event} {outcome : Completion} → R front outcome → is_over outcome ≡ false →
        (run : FollowsAt table (exit exits outcome) back end) → size_at run < bound → events ≡ front ++ back →
        Leads exits bound R events end

  -- so does each shorter run from that number on
  abbrev pub Led : Exits → ℕ → ℕ → Runs → Type 0
  Led exits start bound R =
      (events : List Event) (end : End) (run : FollowsAt table start events end) → size_at run < bound
      → Leads exits bound R events end

  -- a statement with a position of its own, before which a run may stop
  pub data Starts (exits : Exits) (bound : ℕ) (R : Runs) (events : List Event) (end : End) : Type 0 where
    in_front : events ≡ [] → end ≡ Open → Starts exits bound R events end
    starts : Leads exits bound R events end → Starts exits bound R events end

  -- the claim for the turns of loops
  pub record Below (env : Environment) (bound : ℕ) : Type 0 where
    pub turn : {exits : Exits} {label : Option ReactiveLabel} {parts : LoopParts} {turn test body : ℕ}
        → LowersLoop table env exits label parts turn test body
        → Led exits turn bound (RunsLoop env label parts AtTurn)

module _ {table : Table} {bound : ℕ} where
  pub more_room : {exits : Exits} {R : Runs} {events : List Event} {end : End}
      → Leads table exits bound R events end → Leads table exits (suc bound) R events end
  more_room (ends_here here can) = ends_here here can
  more_room (leads here n run small e) = leads here n run (omega arith) e

  -- the same with equal events
  pub lead_events : {exits : Exits} {R : Runs} {events all : List Event} {end : End} → all ≡ events
      → Leads table exits bound R events end → Leads table exits bound R all end
  lead_events {exits} {R} {end = end} e d = subst (λ v. Leads table exits bound R v end) (sym e) d

  -- events come before those of the part
  pub lead_after : {exits : Exits} {R S : Runs} {events : List Event} {end : End} (front : List Event)
      → ((events : List Event) (outcome : Completion) → R events outcome → S (front ++ events) outcome)
      → Leads table exits bound R events end → Leads table exits bound S (front ++ events) end
  lead_after {events = events} {end} front put (ends_here here can) = ends_here (put events (Ended end) here) can
  lead_after front put (leads {front = middle} {back} {outcome} here n run small e) =
      leads (put middle outcome here) n run small (ap (λ v. front ++ v) e ∙ sym (append_assoc front middle back))

  -- the part is in a statement that makes `whole` of its completion
  pub lead_out : {inner outer : Exits} {R S : Runs} {events : List Event} {end : End} {whole : Completion → Completion}
      → Catches whole → inner.throws ≡ outer.throws
      → ((outcome : Completion) → exit inner outcome ≡ exit outer (whole outcome)) → (front : List Event)
      → ((events : List Event) (inner outer : Completion) → R events inner → outer ≡ whole inner
      → S (front ++ events) outer)
      → Leads table inner bound R events end → Leads table outer bound S (front ++ events) end
  lead_out {events = events} {end} catches same aims front put (ends_here here can) =
      ends_here (put events (Ended end) (Ended end) here (sym (catches.over end)))
      (sym (ap (λ t. may_end t end) same) ∙ can)
  lead_out {whole = whole} catches same aims front put
      (leads {front = middle} {back} {outcome} here n run small e) =
      let to = from_equal (aims outcome) run small in
      leads (put middle outcome (whole outcome) here refl) (catches.alike outcome ∙ n) to.0 to.1
      (ap (λ v. front ++ v) e ∙ sym (append_assoc front middle back))

  -- a part, and after it the next one
  pub then_lead : {exits : Exits} {next : ℕ} {R S T : Runs} {events : List Event} {end : End}
      → ((events : List Event) (outcome : Completion) → R events outcome → leaves outcome ≡ true → T events outcome)
      → ((first second : List Event) (outcome : Completion) → R first Normal → S second outcome
      → T (first ++ second) outcome)
      → Led table exits next bound S → Leads table (before next exits) bound R events end
      → Leads table exits bound T events end
  then_lead out on following (ends_here here can) = ends_here (out _ _ here refl) can
  then_lead {exits} {next} {R} {S} {T} {events} {end} out on following
      (leads {front = front} {back} {outcome} here n run small e) =
      by (by_leaves outcome)
    where
      by : (outcome ≡ Normal) ⊎ (leaves outcome ≡ true) → Leads table exits bound T events end
      by (inl normal) =
          let to = from_equal (ap (exit (before next exits)) normal) run small in
          lead_events e
          (lead_after front (λ events outcome after. on _ _ _ (subst (R front) normal here) after)
          (following _ _ to.0 to.1))
      by (inr l) =
          let to = from_equal (before-leads exits next outcome l) run small in leads (out _ _ here l) n to.0 to.1 e
