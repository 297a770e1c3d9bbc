-- A run of the graph that throws inside a part, and goes on from the current handler.
use Rattle.std.proofs.Common.{◌≡◌, ℕ, ◌<◌, ◌≤◌, List, ◌∷◌, ◌++◌, Option, Some, sym, ap, ◌∙◌, subst, append_assoc, arith}
use Rattle.rc_names.specs.Numbers.{BlockId}
use Rattle.rc_hir.specs.Model.{HirFunction, Environment}
use Rattle.rc_runs.specs.Event.{Event, Threw, End}
use Rattle.rc_runs.specs.GraphRun.{GraphRunAt}
use Rattle.rc_runs.proofs.RunSize.{size_at}

module _ (hir : HirFunction) (env : Environment) where
  -- a run is in front of a block
  pub record AtBlock (key : BlockId) (bound : ℕ) (events : List Event) (end : End) : Type 0 where
    pub run : GraphRunAt hir env key events end
    pub small : size_at run < bound

  -- a run that begins at a part has events of `R` up to a place inside, throws there, and goes on from the current
  -- handler
  pub record Throws (handler : Option BlockId) (R : List Event → Type 0) (bound : ℕ) (events : List Event) (end : End) :
      Type 0 where
    pub front : List Event
    pub back : List Event
    pub key : BlockId
    pub inside : R front
    pub current : handler ≡ Some key
    pub at : AtBlock key bound back end
    pub whole : events ≡ front ++ (Threw ∷ back)

module _ {hir : HirFunction} {env : Environment} {R : List Event → Type 0} {bound : ℕ} {events : List Event}
    {end : End} where
  -- with these events a run has come into the part, and there it throws
  pub throws_there : {handler : Option BlockId} {key : BlockId} {rest back : List Event} (front : List Event)
      → R front → handler ≡ Some key → AtBlock hir env key bound back end → events ≡ front ++ rest → rest ≡ Threw ∷ back
      → Throws hir env handler R bound events end
  throws_there {key = key} {back = back} front inside current at e q = record {
    front = front;
    back = back;
    key = key;
    inside = inside;
    current = current;
    at = at;
    whole = e ∙ ap (λ v. front ++ v) q;
  }

  -- events come before those of the part
  pub throw_behind : {handler : Option BlockId} {S : List Event → Type 0} (before : List Event)
      → ((events : List Event) → R events → S (before ++ events)) → Throws hir env handler R bound events end
      → Throws hir env handler S bound (before ++ events) end
  throw_behind before put t = record {
    front = before ++ t.front;
    back = t.back;
    key = t.key;
    inside = put t.front t.inside;
    current = t.current;
    at = t.at;
    whole = ap (λ v. before ++ v) t.whole ∙ sym (append_assoc before t.front (Threw ∷ t.back));
  }

  -- the same under an equal handler
  pub throw_under : {handler other : Option BlockId} → handler ≡ other → Throws hir env handler R bound events end
      → Throws hir env other R bound events end
  throw_under same t = subst (λ handler. Throws hir env handler R bound events end) same t

  -- the same with a larger bound
  pub throw_room : {handler : Option BlockId} {room : ℕ} → bound ≤ room → Throws hir env handler R bound events end
      → Throws hir env handler R room events end
  throw_room more t = record {
    front = t.front;
    back = t.back;
    key = t.key;
    inside = t.inside;
    current = t.current;
    at = record { run = t.at.run; small = omega (arith, t.at.small) };
    whole = t.whole;
  }
