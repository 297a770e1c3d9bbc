-- The steps of a walk: each gives a result and a state, or a fault; and one step after the other.
use Rattle.std.specs.Prelude.{◌≡◌, ◌⊎◌, List, [], ◌∷◌, Option, None, Some, Result, Ok, Err}
use Rattle.rc_hir.specs.Model.{Fault}
use Rattle.rc_hir.specs.declared.fault.Fault.TheVariants.{NoMemory}
use Rattle.rc_tree.specs.Model.{Enter}
use Rattle.rc_tree.specs.declared.hooks.Enter.TheVariants.{Inside, Skip}

-- a step takes a state to a result and the new state, or to a fault
abbrev pub Step : Type 0 → Type 0 → Type 0
Step S A = S → Result (A × S) Fault

-- a step without a result
abbrev pub Walk : Type 0 → Type 0
Walk S = S → Result (Unit {0} × S) Fault

-- a call returns the expected result and leaves the expected state, or runs out of memory
abbrev pub IsStep : {A S : Type 0} → Result (A × S) Fault → Result A Fault → S → Type 0
IsStep expected (Ok answer) after = expected ≡ Ok (answer, after)
IsStep expected (Err fault) after = (fault ≡ NoMemory) ⊎ (expected ≡ Err fault)

-- a step, and the next one from its value; a fault ends the walk
abbrev pub bind : {A B : Type 0} → Result A Fault → (A → Result B Fault) → Result B Fault
bind (Ok a) next = next a
bind (Err fault) next = Err fault

module _ {S : Type 0} where
  -- one walk, and then another
  abbrev pub next_to : Walk S → Walk S → Walk S
  next_to first second s = bind (first s) (λ r. second r.1)

  -- a walk of each entry of a list, in order
  abbrev pub each : {X : Type 0} → (X → Walk S) → List X → Walk S
  each step [] s = Ok (tt, s)
  each step (x ∷ xs) s = bind (step x s) (λ r. each step xs r.1)

  -- a walk of an optional part
  abbrev pub perhaps : {X : Type 0} → (X → Walk S) → Option X → Walk S
  perhaps step None s = Ok (tt, s)
  perhaps step (Some x) s = step x s

  -- after an enter step: the inside and the leave step at `Inside`, nothing at `Skip`
  abbrev pub by_answer : Walk S → Walk S → Enter → Walk S
  by_answer inside leave Inside s = bind (inside s) (λ r. leave r.1)
  by_answer inside leave Skip s = Ok (tt, s)

  -- the walk of a part: its enter step, and then the inside and the leave step, unless it is skipped
  abbrev pub around : Step S Enter → Walk S → Walk S → Walk S
  around enter inside leave s = bind (enter s) (λ r. by_answer inside leave r.0 r.1)
