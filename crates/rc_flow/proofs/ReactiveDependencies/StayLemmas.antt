-- What the growing set gives is what the definitions by chains give.
use Rattle.std.proofs.Common.{◌≡◌, ◌∙◌, ◌⊎◌, ◌↔◌, ◌+◌, ◌<◌, inl, inr, ℕ, List, [], ◌∷◌, ◌++◌, Some, None}
use Rattle.std.proofs.Common.{Result, Ok, Err, IfErr, true, length, slice_get, refl, sym, ap, subst}
use Rattle.std.proofs.lemmas.Option.{slice_get_past}
use Rattle.std.proofs.lemmas.Bool.{cases_lt}
use Rattle.std.proofs.lemmas.Result.{IfErr-weaker}
use Rattle.rc_hir.specs.Model.{Environment, Fault, ReactiveScope, ReactiveScopeDependency}
use Rattle.rc_hir.specs.declared.fault.Fault.TheVariants.{NoMemory}
use Rattle.rc_names.specs.Numbers.{IdentifierId, ScopeId, is_among, to_id}
use Rattle.rc_tree.proofs.StepLemmas.{Ok-injective, not_err}
use Rattle.rc_tree.specs.Step.{bind}
use Rattle.rc_tree.specs.TreeNames.{TreeInTables, TreeNamesOutside}
use Rattle.rc_tree.specs.Model.{ReactiveBlock, ReactiveFunction}
use Rattle.rc_flow.proofs.RecordedFaults.{no_name_outside, recorded_named}
use Rattle.rc_flow.proofs.RecordingLemmas.{steps_walked}
use Rattle.rc_flow.proofs.SpreadLemmas.{good_all, steps-append}
use Rattle.rc_flow.specs.Collected.{AreCollected, Recorded, recorded_steps}
use Rattle.rc_flow.specs.Flows.{flows_in}
use Rattle.rc_flow.specs.Reached.{IsReached}
use Rattle.rc_flow.specs.ReactiveDependencies.{HasReactiveDependencies, KeepReactive, Stays}
use Rattle.rc_flow.specs.declared.spread.Spread.{Spread}
use Rattle.rc_flow.specs.declared.step.Step.{Step}
use Rattle.rc_flow.specs.declared.step.Step.TheVariants.{Ends}
use Rattle.rc_flow.specs.inside.Pruned.{pruned_from, scopes_after}
use Rattle.rc_flow.specs.inside.Spread.{after_steps, nothing, spread_over, stays}

-- an entry that was found is inside its list
found_below : {A : Type 0} (xs : List A) (p : ℕ) (x : A) → slice_get xs p ≡ Some x → p < length xs
found_below xs p x found = elim (cases_lt p (length xs)) [
  | inl below ↦ below
  | inr past ↦ absurd (none_some (sym (slice_get_past xs p past) ∙ found))
]
  where
    none_some : {A : Type 0} {x : A} → None ≡ Some x → ⊥
    none_some e = let bad : ⊥ = cc in bad

module _ (env : Environment) (steps : List Step) where
  abbrev after : Spread
  after = after_steps env steps nothing

  tells : (scope : ScopeId) (d : ReactiveScopeDependency)
      → (stays after scope d ≡ true) ↔ Stays env steps scope d
  tells scope d =
      let early = (good_all env steps).early scope d.identifier in (
        (λ h p found. early.0 h p found (found_below steps p (Ends scope) found)),
        (λ h. early.1 (λ p found below. h p found)),
      )

  keep_from : (number : ℕ) (scopes : List ReactiveScope)
      → KeepReactive env steps number scopes (pruned_from after number scopes)
  keep_from number [] = tt
  keep_from number (scope ∷ scopes) = (
    record { stays = stays after (to_id number); tells = tells (to_id number); kept = refl },
    keep_from (number + 1) scopes,
  )

module _ (env : Environment) (body : ReactiveBlock) where
  -- the names of the set are those that the steps reach
  abbrev AreReached : List Step → Spread → Type 0
  AreReached steps s = (name : IdentifierId) → (is_among s.names name ≡ true) ↔ IsReached env steps (length steps) name

  -- the state after steps, and after those that the walk lists
  abbrev spread_of : Recorded → Result Spread Fault
  spread_of recorded = bind recorded (λ steps. Ok (after_steps env steps nothing))

  same_spread : spread_of (recorded_steps env body) ≡ spread_over body env
  same_spread = ap spread_of (steps_walked env body)

  pub set_collected : (s : Spread) → spread_over body env ≡ Ok s → AreCollected env body s.names
  set_collected s e = by (recorded_steps env body) refl (same_spread ∙ e)
    where
      by : (r : Recorded) → recorded_steps env body ≡ r → spread_of r ≡ Ok s → AreCollected env body s.names
      by (Ok steps) is e = record {
        steps = steps;
        recorded = is;
        reached = subst (AreReached steps) (Ok-injective (after env steps) s e) (good_all env steps).agrees;
      }
      by (Err fault) is e = absurd (not_err s fault (sym e))

  abbrev flowed : Spread → Result (List ReactiveScope) Fault
  flowed s = Ok (pruned_from (after_steps env (flows_in env body) s) 0 env.scopes)

  -- the scopes keep the dependencies that stay
  pub scopes_right : (scopes : List ReactiveScope) → scopes_after body env ≡ Ok scopes
      → HasReactiveDependencies body env (record env { scopes = scopes })
  scopes_right scopes e = by (recorded_steps env body) refl (ap (λ s. bind s flowed) same_spread ∙ e)
    where
      by : (r : Recorded) → recorded_steps env body ≡ r → bind (spread_of r) flowed ≡ Ok scopes
          → HasReactiveDependencies body env (record env { scopes = scopes })
      by (Ok steps) is e =
          let all = steps ++ flows_in env body in
          let whole : pruned_from (after env all) 0 env.scopes ≡ scopes =
          ap (λ s. pruned_from s 0 env.scopes) (steps-append env steps (flows_in env body) nothing)
          ∙ Ok-injective _ scopes e in
          record {
            collecting = steps;
            recorded = is;
            others = refl;
            scopes = subst (KeepReactive env all 0 env.scopes) whole (keep_from env all 0 env.scopes);
          }
      by (Err fault) is e = absurd (not_err scopes fault (sym e))

  -- what holds of the environment with less dependencies, whichever they are, holds with those that stay
  pub scopes_keep : (P : Environment → Type 0) → ((s : Spread) → P (record env { scopes = pruned_from s 0 env.scopes }))
      → (scopes : List ReactiveScope) → scopes_after body env ≡ Ok scopes → P (record env { scopes = scopes })
  scopes_keep P kept scopes = by (spread_over body env)
    where
      by : (r : Result Spread Fault) → bind r flowed ≡ Ok scopes → P (record env { scopes = scopes })
      by (Ok s) e = subst (λ left. P (record env { scopes = left })) (Ok-injective _ scopes e)
          (kept (after_steps env (flows_in env body) s))
      by (Err fault) e = absurd (not_err scopes fault (sym e))

module _ (env : Environment) (func : ReactiveFunction) where
  -- the fault names a number outside its table
  abbrev Outside : Fault → Type 0
  Outside = TreeNamesOutside func env

  -- each fault of the two definitions does
  pub set_named : IfErr (spread_over func.body env) Outside
  set_named = subst (λ r. IfErr r Outside) (same_spread env func.body)
      (by (recorded_steps env func.body) (recorded_named env func))
    where
      by : (r : Recorded) → IfErr r Outside → IfErr (spread_of env func.body r) Outside
      by (Ok steps) none = tt
      by (Err fault) named = named

  pub scopes_named : IfErr (scopes_after func.body env) Outside
  scopes_named = by (spread_over func.body env) set_named
    where
      by : (r : Result Spread Fault) → IfErr r Outside → IfErr (bind r (flowed env func.body)) Outside
      by (Ok s) none = tt
      by (Err fault) named = named

  -- each fault of a call does, except `NoMemory`
  abbrev Named : {B : Type 0} → Result B Fault → Type 0
  Named result = IfErr result (λ fault. (fault ≡ NoMemory) ⊎ Outside fault)

  pub refused : {A B : Type 0} (expected : Result A Fault) → IfErr expected Outside → (result : Result B Fault)
      (fault : Fault) → result ≡ Err fault → (fault ≡ NoMemory) ⊎ (expected ≡ Err fault) → Named result
  refused expected named result fault is cause = subst Named (sym is) (by cause)
    where
      by : (fault ≡ NoMemory) ⊎ (expected ≡ Err fault) → (fault ≡ NoMemory) ⊎ Outside fault
      by (inl memory) = inl memory
      by (inr e) = inr (subst (λ r. IfErr r Outside) e named)

  -- which alone is left where every number is in its table
  pub refused_sound : {B : Type 0} (result : Result B Fault) → TreeInTables func env → Named result
      → IfErr result (λ fault. fault ≡ NoMemory)
  refused_sound result known = IfErr-weaker result _ _ (λ fault. by fault)
    where
      by : (fault : Fault) → (fault ≡ NoMemory) ⊎ Outside fault → fault ≡ NoMemory
      by fault (inl memory) = memory
      by fault (inr named) = absurd (no_name_outside func env fault known named)
