-- Computations with fuel, which bounds their depth: a computation runs out of fuel, fails, or is done.
use Rattle.std.specs.Prelude.{List, [], ◌∷◌, ◌++◌, Option, None, Some, Result, Ok, Err}
use Rattle.rc_hir.specs.Model.{Fault}
use Rattle.rc_hir.specs.declared.fault.Fault.TheVariants.{NoMemory}
use Rattle.rc_tree.specs.Model.{Enter}
use Rattle.rc_tree.specs.declared.hooks.Enter.TheVariants.{Inside, Skip}

-- the result of a computation with fuel: nothing once the fuel is used up, a fault, or a value
pub data Fueled (A : Type 0) : Type 0 where
  OutOfFuel : Fueled A
  Failed : Fault → Fueled A
  Done : A → Fueled A

-- a computation, and the next one from its value
abbrev pub bind : {A B : Type 0} → Fueled A → (A → Fueled B) → Fueled B
bind OutOfFuel next = OutOfFuel
bind (Failed fault) next = Failed fault
bind (Done a) next = next a

-- a step that needs no fuel, and the computation that follows from its value
abbrev pub after : {A B : Type 0} → Result A Fault → (A → Fueled B) → Fueled B
after (Ok a) next = next a
after (Err fault) next = Failed fault

-- a step that needs no fuel, as the end of a computation
abbrev pub last : {A : Type 0} → Result A Fault → Fueled A
last (Ok a) = Done a
last (Err fault) = Failed fault

-- a computation that has enough fuel, as a step; without enough fuel, which doesn't happen, it would be out of memory
unfoldable pub as_step : {A : Type 0} → Fueled A → Result A Fault
as_step OutOfFuel = Err NoMemory
as_step (Failed fault) = Err fault
as_step (Done a) = Ok a

-- a step takes the world and a part to a result and the new world and part, or to a fault
abbrev pub Hook : Type 0 → Type 0 → Type 0 → Type 0
Hook W X A = W → X → Result (A × (W × X)) Fault

-- the walk of a part, with fuel
abbrev pub FueledWalk : Type 0 → Type 0 → Type 0
FueledWalk W X = W → X → Fueled (Unit {0} × (W × X))

-- the walk of a part that is then appended to a list, with fuel
abbrev pub FueledInto : Type 0 → Type 0 → Type 0
FueledInto W X = W → List X → X → Fueled (Unit {0} × (W × List X))

module _ {W X : Type 0} where
  -- the walk of a list's entries in order, each of which is appended to those that are done
  abbrev pub in_turn : FueledInto W X → W → List X → List X → Fueled (Unit {0} × (W × List X))
  in_turn into w done [] = Done (tt, (w, done))
  in_turn into w done (x ∷ xs) = bind (into w done x) (λ r. in_turn into r.1.0 r.1.1 xs)

  -- the walk of an entry, which is then appended to those that are done
  abbrev pub kept_into : FueledWalk W X → FueledInto W X
  kept_into part w done x = bind (part w x) (λ r. Done (tt, (r.1.0, done ++ r.1.1 ∷ [])))

  -- the walk of a list, whose entries stay in their order
  abbrev pub each_part : FueledWalk W X → FueledWalk W (List X)
  each_part part w xs = in_turn (kept_into part) w [] xs

  -- the walk of an optional part
  abbrev pub perhaps_part : FueledWalk W X → FueledWalk W (Option X)
  perhaps_part part w None = Done (tt, (w, None))
  perhaps_part part w (Some x) = bind (part w x) (λ r. Done (tt, (r.1.0, Some r.1.1)))

  -- a step on an optional part, without fuel
  abbrev pub perhaps_hook : Hook W X (Unit {0}) → Hook W (Option X) (Unit {0})
  perhaps_hook step w None = Ok (tt, (w, None))
  perhaps_hook step w (Some x) = within (step w x)
    where
      within : Result (Unit {0} × (W × X)) Fault → Result (Unit {0} × (W × Option X)) Fault
      within (Ok r) = Ok (tt, (r.1.0, Some r.1.1))
      within (Err fault) = Err fault

  -- after an enter step: the inside and the leave step at `Inside`, nothing at `Skip`
  abbrev pub by_answer : FueledWalk W X → Hook W X (Unit {0}) → Enter → W × X → Fueled (Unit {0} × (W × X))
  by_answer inside leave Inside p = bind (inside p.0 p.1) (λ r. last (leave r.1.0 r.1.1))
  by_answer inside leave Skip p = Done (tt, p)

  -- the walk of a part: its enter step, and then the inside and the leave step, unless it is skipped
  abbrev pub around : Hook W X Enter → FueledWalk W X → Hook W X (Unit {0}) → FueledWalk W X
  around enter inside leave w x = after (enter w x) (λ r. by_answer inside leave r.0 r.1)
