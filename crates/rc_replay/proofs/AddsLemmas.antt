-- What is added to a set of positions, by one move, by several, and by those of several positions.
use Rattle.std.proofs.Common.{◌≡◌, ◌∙◌, ◌⊎◌, ◌++◌, ℕ, true, false, List, [], ◌∷◌, Option, refl, sym, ap, subst}
use Rattle.std.proofs.Common.{inl, inr, min, append-nil, append_assoc}
use Rattle.std.specs.Prelude.{Err, Ok, OnOk, Result}
use Rattle.rc_hir.specs.Model.{InstructionValue, Place}
use Rattle.rc_replay.specs.declared.positions.Position.{Position as LaidPosition}
use Rattle.rc_replay.specs.inside.Closing.{Adds, IsNextOf, has}
use Rattle.rc_replay.specs.inside.Paths.{Leads, LeadsWithin, ShowsWithin, Steps, chooses, computes, fails, goes_on, holds, passes, throws}
use Rattle.rc_replay.specs.inside.Positions.{Attempts, Choice, Chooses, Computes, IsChoice, Passes, Position, Tests, first, later}
use Rattle.rc_replay.proofs.SetLemmas.{has_either, has_left, has_one, has_right, one_has}
use Rattle.rc_runs.specs.Event.{Arm, Chose, Did, Event, Threw}

module _ (first second both : ℕ → Type 0) (old mid new : List ℕ) where
  -- one addition after the other
  pub adds_both : Adds first old mid → Adds second mid new → ((at : ℕ) → first at → both at)
      → ((at : ℕ) → second at → both at) → ((at : ℕ) → both at → first at ⊎ second at) → Adds both old new
  adds_both one two from_first from_second either = record {
    more = one.more ++ two.more;
    grown = two.grown ∙ ap (λ l. l ++ two.more) one.grown ∙ append_assoc old one.more two.more;
    only = λ at h. after at (two.only at h);
    all = λ at p. all at (either at p);
  }
    where
      before : (at : ℕ) → (has old at ≡ true) ⊎ first at → (has old at ≡ true) ⊎ both at
      before at (inl h) = inl h
      before at (inr p) = inr (from_first at p)

      after : (at : ℕ) → (has mid at ≡ true) ⊎ second at → (has old at ≡ true) ⊎ both at
      after at (inl h) = before at (one.only at h)
      after at (inr p) = inr (from_second at p)

      all : (at : ℕ) → first at ⊎ second at → has new at ≡ true
      all at (inl p) = ap (λ l. has l at) two.grown ∙ has_left mid two.more at (one.all at p)
      all at (inr p) = two.all at p

-- the same numbers by another property
pub adds_as : {property other : ℕ → Type 0} {old new : List ℕ} → ((at : ℕ) → property at → other at)
    → ((at : ℕ) → other at → property at) → Adds property old new → Adds other old new
adds_as {property} {other} {old} to from adds = record {
  more = adds.more;
  grown = adds.grown;
  only = λ at h. only at (adds.only at h);
  all = λ at p. adds.all at (from at p);
}
  where
    only : (at : ℕ) → (has old at ≡ true) ⊎ property at → (has old at ≡ true) ⊎ other at
    only at (inl h) = inl h
    only at (inr p) = inr (to at p)

-- a move that shows what is wanted leads there
pub shows_leads : {position : Position} {events wanted : List Event} {next : ℕ} (last at : ℕ) → Leads position events next
    → ShowsWithin events next last wanted at → LeadsWithin position last wanted at
shows_leads {position} {next = next} last at leads shows =
    (next, subst (λ w. Leads position w next) shows.0 leads, shows.1)

module _ (last : ℕ) (wanted : List Event) (old new : List ℕ) where
  -- the moves of a position of each form, where the call that added the last one may have failed
  pub passes_ok : {T E : Type 0} (result : Result T E) (next : ℕ) → OnOk result (Adds (ShowsWithin [] next last wanted) old new)
      → OnOk result (Adds (LeadsWithin (Passes next) last wanted) old new)
  passes_ok (Err error) next adds = adds
  passes_ok (Ok done) next adds = adds_as (λ at. shows_leads last at passes) (λ at. back at) adds
    where
      back : {wanted : List Event} (at : ℕ) → LeadsWithin (Passes next) last wanted at → ShowsWithin [] next last wanted at
      back at (next, passes, there) = (refl, there)

  pub computes_ok : {T E : Type 0} (result : Result T E) (value : InstructionValue) (next : ℕ)
      → OnOk result (Adds (ShowsWithin (Did value ∷ []) next last wanted) old new)
      → OnOk result (Adds (LeadsWithin (Computes value next) last wanted) old new)
  computes_ok (Err error) value next adds = adds
  computes_ok (Ok done) value next adds = adds_as (λ at. shows_leads last at computes) (λ at. back at) adds
    where
      back : {wanted : List Event} (at : ℕ) → LeadsWithin (Computes value next) last wanted at
          → ShowsWithin (Did value ∷ []) next last wanted at
      back at (next, computes, there) = (refl, there)

  pub tests_ok : {T E : Type 0} (result : Result T E) (mid : List ℕ) (when otherwise : ℕ)
      → Adds (ShowsWithin (Arm true ∷ []) when last wanted) old mid
      → OnOk result (Adds (ShowsWithin (Arm false ∷ []) otherwise last wanted) mid new)
      → OnOk result (Adds (LeadsWithin (Tests when otherwise) last wanted) old new)
  tests_ok (Err error) mid when otherwise one two = two
  tests_ok (Ok done) mid when otherwise one two = adds_both (ShowsWithin (Arm true ∷ []) when last wanted)
      (ShowsWithin (Arm false ∷ []) otherwise last wanted) (LeadsWithin (Tests when otherwise) last wanted) old mid new
      one two (λ at. shows_leads last at holds) (λ at. shows_leads last at fails) (λ at. either at)
    where
      either : {wanted : List Event} (at : ℕ) → LeadsWithin (Tests when otherwise) last wanted at
          → ShowsWithin (Arm true ∷ []) when last wanted at ⊎ ShowsWithin (Arm false ∷ []) otherwise last wanted at
      either at (next, holds, there) = inl (refl, there)
      either at (next, fails, there) = inr (refl, there)

  pub attempts_ok : {T E : Type 0} (result : Result T E) (mid : List ℕ) (next handler : ℕ)
      → Adds (ShowsWithin [] next last wanted) old mid
      → OnOk result (Adds (ShowsWithin (Threw ∷ []) handler last wanted) mid new)
      → OnOk result (Adds (LeadsWithin (Attempts next handler) last wanted) old new)
  attempts_ok (Err error) mid next handler one two = two
  attempts_ok (Ok done) mid next handler one two = adds_both (ShowsWithin [] next last wanted)
      (ShowsWithin (Threw ∷ []) handler last wanted) (LeadsWithin (Attempts next handler) last wanted) old mid new
      one two (λ at. shows_leads last at goes_on) (λ at. shows_leads last at throws) (λ at. either at)
    where
      either : {wanted : List Event} (at : ℕ) → LeadsWithin (Attempts next handler) last wanted at
          → ShowsWithin [] next last wanted at ⊎ ShowsWithin (Threw ∷ []) handler last wanted at
      either at (to, goes_on, there) = inl (refl, there)
      either at (to, throws, there) = inr (refl, there)

  -- a switch without choices leads nowhere
  pub adds_no_choice : Adds (LeadsWithin (Chooses []) last wanted) old old
  adds_no_choice = record {
    more = [];
    grown = sym (append-nil old);
    only = λ at there. inl there;
    all = λ at leads. absurd (none at leads);
  }
    where
      none : {wanted : List Event} (at : ℕ) → LeadsWithin (Chooses []) last wanted at → ⊥
      none at (next, chooses found, there) = elim found [ ]

  -- one more choice
  pub adds_choice : (mid : List ℕ) (choices : List Choice) (choice : Choice)
      → Adds (LeadsWithin (Chooses choices) last wanted) old mid
      → Adds (ShowsWithin (Chose choice.0 ∷ []) choice.1 last wanted) mid new
      → Adds (LeadsWithin (Chooses (choices ++ choice ∷ [])) last wanted) old new
  adds_choice mid choices choice one two = adds_both (LeadsWithin (Chooses choices) last wanted)
      (ShowsWithin (Chose choice.0 ∷ []) choice.1 last wanted) (LeadsWithin (Chooses (choices ++ choice ∷ [])) last wanted)
      old mid new one two (λ at. more at) (λ at. shows_leads last at (chooses (last_choice choices))) (λ at. either at)
    where
      more_choice : {test : Option Place} {next : ℕ} (choices : List Choice) → IsChoice choices test next
          → IsChoice (choices ++ choice ∷ []) test next
      more_choice [] found = elim found [ ]
      more_choice (other ∷ choices) first = first
      more_choice (other ∷ choices) (later found) = later (more_choice choices found)

      last_choice : (choices : List Choice) → IsChoice (choices ++ choice ∷ []) choice.0 choice.1
      last_choice [] = first
      last_choice (other ∷ choices) = later (last_choice choices)

      more : {wanted : List Event} (at : ℕ) → LeadsWithin (Chooses choices) last wanted at
          → LeadsWithin (Chooses (choices ++ choice ∷ [])) last wanted at
      more at (next, chooses found, there) = (next, chooses (more_choice choices found), there)

      choice_either : (choices : List Choice) {test : Option Place} {next : ℕ} → IsChoice (choices ++ choice ∷ []) test next
          → IsChoice choices test next ⊎ ((test ≡ choice.0) × (next ≡ choice.1))
      choice_either [] first = inr (refl, refl)
      choice_either [] (later found) = elim found [ ]
      choice_either (other ∷ choices) first = inl first
      choice_either (other ∷ choices) (later found) = tail (choice_either choices found)
        where
          tail : {test : Option Place} {next : ℕ} → IsChoice choices test next ⊎ ((test ≡ choice.0) × (next ≡ choice.1))
              → IsChoice (other ∷ choices) test next ⊎ ((test ≡ choice.0) × (next ≡ choice.1))
          tail (inl found) = inl (later found)
          tail (inr same) = inr same

      split : {test : Option Place} {next : ℕ} (at : ℕ) → at ≡ min next last
          → IsChoice choices test next ⊎ ((test ≡ choice.0) × (next ≡ choice.1))
          → LeadsWithin (Chooses choices) last (Chose test ∷ []) at
          ⊎ ShowsWithin (Chose choice.0 ∷ []) choice.1 last (Chose test ∷ []) at
      split {next = next} at there (inl found) = inl (next, chooses found, there)
      split at there (inr same) = inr (ap (λ t. Chose t ∷ []) (sym same.0), there ∙ ap (λ n. min n last) same.1)

      either : {wanted : List Event} (at : ℕ) → LeadsWithin (Chooses (choices ++ choice ∷ [])) last wanted at
          → LeadsWithin (Chooses choices) last wanted at ⊎ ShowsWithin (Chose choice.0 ∷ []) choice.1 last wanted at
      either at (next, chooses found, there) = split at there (choice_either choices found)

module _ (table : List LaidPosition) (wanted : List Event) (old new : List ℕ) where
  -- the moves of one more position
  pub adds_next : (mid here : List ℕ) (at : ℕ) → Adds (IsNextOf table here wanted) old mid
      → Adds (Steps table at wanted) mid new → Adds (IsNextOf table (here ++ at ∷ []) wanted) old new
  adds_next mid here at one two = adds_both (IsNextOf table here wanted) (Steps table at wanted)
      (IsNextOf table (here ++ at ∷ []) wanted) old mid new one two
      (λ to found. record { at = found.at; among = has_left here (at ∷ []) found.at found.among; step = found.step })
      (λ to step. record { at = at; among = has_right here (at ∷ []) at (one_has at); step = step })
      (λ to found. by to found.at found.step (has_either here (at ∷ []) found.at found.among))
    where
      by : (to from : ℕ) → Steps table from wanted to → (has here from ≡ true) ⊎ (has (at ∷ []) from ≡ true)
          → IsNextOf table here wanted to ⊎ Steps table at wanted to
      by to from step (inl h) = inl (record { at = from; among = h; step = step })
      by to from step (inr h) = inr (subst (λ n. Steps table n wanted to) (has_one at from h) step)
