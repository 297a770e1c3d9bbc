-- How the closing of a set of positions goes on, and how a run is followed from one closed set to the next.
use Rattle.std.proofs.Common.{◌≡◌, ◌∙◌, ◌⊎◌, ◌↔◌, ◌+◌, ◌≤◌, ◌<◌, ℕ, true, List, [], ◌∷◌, ◌++◌, refl, sym, ap, subst}
use Rattle.std.proofs.Common.{inl, inr, length, take, get_or, arith, nat_eq}
use Rattle.std.specs.List.{IsDistinct}
use Rattle.std.proofs.lemmas.List.{length-append, take-append-le, take_all, take_more}
use Rattle.std.proofs.lemmas.Map.Steps.{length-le_from_distinct_below}
use Rattle.rc_replay.specs.declared.positions.Position.{Position}
use Rattle.rc_replay.specs.inside.Closing.{has, Adds, IsNextOf, MayEndAmong, Begins, Closing, Closes, Following}
use Rattle.rc_replay.specs.inside.Paths.{Path, ends, goes, Steps}
use Rattle.rc_replay.proofs.SetLemmas.{has_at, has_either, has_left, has_none, has_one}
use Rattle.rc_replay.proofs.PathLemmas.{Ahead, ended, went, ahead}
use Rattle.rc_runs.specs.Event.{Event, End}

kept_by : (property : ℕ → Type 0) (old new : List ℕ) → Adds property old new → (at : ℕ) → has old at ≡ true
    → has new at ≡ true
kept_by property old new adds at h = ap (λ l. has l at) adds.grown ∙ has_left old adds.more at h

module _ (table : List Position) where
  step_within : {at to : ℕ} {events : List Event} → Steps table at events to → to ≤ length table
  step_within step = omega (arith, step.leads.2)

  pub closing_next : (old here new : List ℕ) (looked at : ℕ) → looked < length here → at ≡ get_or here looked 0
      → Closing table old here looked → Adds (Steps table at []) here new → Closing table old new (looked + 1)
  closing_next old here new looked at inside read closing adds = record {
    kept = λ q h. more q (closing.kept q h);
    within = λ q h. within q (adds.only q h);
    back = λ events end leads. back events end leads.at leads.path (adds.only leads.at leads.among);
    led = λ q to h step. led q to step (has_either (take looked here) (at ∷ []) q (sym (ap (λ l. has l q) taken) ∙ h));
    bound = omega (arith, inside, ap length adds.grown, length-append here adds.more);
  }
    where
      more : (q : ℕ) → has here q ≡ true → has new q ≡ true
      more q h = kept_by (Steps table at []) here new adds q h

      taken : take (looked + 1) new ≡ take looked here ++ at ∷ []
      taken = ap (take (looked + 1)) adds.grown
          ∙ take-append-le (looked + 1) here adds.more (omega (arith, inside))
          ∙ take_more here looked 0 inside
          ∙ ap (λ n. take looked here ++ n ∷ []) (sym read)

      within : (q : ℕ) → (has here q ≡ true) ⊎ Steps table at [] q → q ≤ length table
      within q (inl h) = closing.within q h
      within q (inr step) = step_within step

      back : (events : List Event) (end : End) (q : ℕ) → Path table q events end
          → (has here q ≡ true) ⊎ Steps table at [] q → Begins table old events end
      back events end q path (inl h) = closing.back events end (record { at = q; among = h; path = path })
      back events end q path (inr step) = closing.back events end
          (record { at = at; among = subst (λ n. has here n ≡ true) (sym read) (has_at here looked inside); path = goes step path refl })

      led : (q to : ℕ) → Steps table q [] to → (has (take looked here) q ≡ true) ⊎ (has (at ∷ []) q ≡ true) → has new to ≡ true
      led q to step (inl h) = more to (closing.led q to h step)
      led q to step (inr h) = adds.all to (subst (λ n. Steps table n [] to) (has_one at q h) step)

  -- what is there has room in the table
  pub room : (old here : List ℕ) (looked : ℕ) → IsDistinct nat_eq here → Closing table old here looked
      → length here ≤ length table + 1
  room old here looked distinct closing = length-le_from_distinct_below here (length table + 1) distinct
      (λ at h. let bound = closing.within at h in omega (arith, bound))

  pub closing_end : (old here : List ℕ) (looked : ℕ) → length here ≤ looked → Closing table old here looked
      → Closes table old here
  closing_end old here looked all closing = record {
    kept = closing.kept;
    back = closing.back;
    led = λ at to h step. closing.led at to (ap (λ l. has l at) (take_all looked here all) ∙ h) step;
  }

  module _ (start : ℕ) (all : List Event) (end : End) where
    module _ (here closed : List ℕ) (closes : Closes table here closed) where
      pub following_next : (next : List ℕ) (event : Event) (rest : List Event)
          → Following table start all here (event ∷ rest) end → Adds (IsNextOf table closed (event ∷ [])) [] next
          → Following table start all next rest end
      following_next next event rest following adds = record {
        within = λ at h. within at (adds.only at h);
        forth = λ path. let leads = following.forth path in
            forth (ahead table closed closes.led (closes.kept leads.at leads.among) leads.path);
        back = λ leads. back leads.at leads.path (adds.only leads.at leads.among);
      }
        where
          within : (at : ℕ) → (has [] at ≡ true) ⊎ IsNextOf table closed (event ∷ []) at → at ≤ length table
          within at (inl h) = has_none at h
          within at (inr next_of) = step_within next_of.step

          forth : Ahead table closed (event ∷ rest) end → Begins table next rest end
          forth (went {to = to} next_of path) = record { at = to; among = adds.all to next_of; path = path }

          back : (at : ℕ) → Path table at rest end → (has [] at ≡ true) ⊎ IsNextOf table closed (event ∷ []) at
              → Path table start all end
          back at path (inl h) = has_none at h
          back at path (inr next_of) = following.back (closes.back (event ∷ rest) end
              (record { at = next_of.at; among = next_of.among; path = goes next_of.step path refl }))

      pub following_end : Following table start all here [] end
          → Path table start all end ↔ MayEndAmong table closed end
      following_end following = (
        λ path. let leads = following.forth path in
            last (ahead table closed closes.led (closes.kept leads.at leads.among) leads.path),
        λ among. following.back (closes.back [] end
            (record { at = among.at; among = among.among; path = ends among.ends })),
      )
        where
          last : Ahead table closed [] end → MayEndAmong table closed end
          last (ended among) = among
