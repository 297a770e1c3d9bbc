-- The last row of a value runs as the row itself: where a load replaces a store, both are silent.
use Rattle.std.proofs.Common.{◌≡◌, List, ◌∷◌, [], Bool, true, false, if◌then◌else◌, refl, sym, ap, ◌∙◌, subst}
use Rattle.rc_hir.specs.Model.{InstructionValue, Environment}
use Rattle.rc_hir.specs.declared.instruction.InstructionValue.TheVariants as kinds
use Rattle.rc_runs.specs.Event.{Event, Did}
use Rattle.rc_runs.specs.Silent.{is_unnamed, is_silent_value}
use Rattle.rc_runs.specs.PlainTree.{Base}
use Rattle.rc_runs.specs.LastRow.{last_value}
use Rattle.rc_runs.specs.ValueRun.{Progress, Done, Inside, RunsValue, value_stopped, quiet_value, did_value}
use Rattle.rc_runs.specs.ValueRun.{did_and_stopped}

last_value-silent : (env : Environment) (value : InstructionValue)
    → is_silent_value env (last_value env value) ≡ is_silent_value env value
unfolding is_silent_value
last_value-silent env (kinds.StoreLocal lvalue value span) = go (is_unnamed env lvalue.place) refl
  where
    go : (unnamed : Bool) → is_unnamed env lvalue.place ≡ unnamed →
        is_silent_value env
        (if unnamed then kinds.LoadLocal value value.span else kinds.StoreLocal lvalue value span)
        ≡ is_unnamed env lvalue.place
    go true q = sym q
    go false q = refl
last_value-silent env value = refl

last_value-seen : (env : Environment) (value : InstructionValue) → is_silent_value env value ≡ false
    → last_value env value ≡ value
unfolding is_silent_value
last_value-seen env (kinds.StoreLocal lvalue value span) seen =
    ap (λ unnamed. if unnamed then kinds.LoadLocal value value.span else kinds.StoreLocal lvalue value span) seen
last_value-seen env value seen = refl

-- values that are silent alike, and the same where they aren't, have the same runs
pub runs_alike : {env : Environment} {is_test : Bool} {events : List Event} {progress : Progress}
    (a b : InstructionValue) → is_silent_value env a ≡ is_silent_value env b
    → (is_silent_value env b ≡ false → a ≡ b) → RunsValue env is_test (Base a) events progress
    → RunsValue env is_test (Base b) events progress
runs_alike a b alike same value_stopped = value_stopped
runs_alike a b alike same (quiet_value h) = quiet_value (sym alike ∙ h)
runs_alike {env} {is_test} a b alike same (did_value h) =
    let seen : is_silent_value env b ≡ false = sym alike ∙ h in
    subst (λ v. RunsValue env is_test (Base b) (Did v ∷ []) Done) (sym (same seen)) (did_value seen)
runs_alike {env} {is_test} a b alike same (did_and_stopped h) =
    let seen : is_silent_value env b ≡ false = sym alike ∙ h in
    subst (λ v. RunsValue env is_test (Base b) (Did v ∷ []) Inside) (sym (same seen)) (did_and_stopped seen)

pub last_value-runs : {env : Environment} {is_test : Bool} {events : List Event} {progress : Progress}
    (value : InstructionValue) → RunsValue env is_test (Base (last_value env value)) events progress
    → RunsValue env is_test (Base value) events progress
last_value-runs {env} value run =
    runs_alike (last_value env value) value (last_value-silent env value) (last_value-seen env value) run

pub runs-last_value : {env : Environment} {is_test : Bool} {events : List Event} {progress : Progress}
    (value : InstructionValue) → RunsValue env is_test (Base value) events progress
    → RunsValue env is_test (Base (last_value env value)) events progress
runs-last_value {env} value run =
    runs_alike value (last_value env value) (sym (last_value-silent env value))
    (λ seen. sym (last_value-seen env value (sym (last_value-silent env value) ∙ seen))) run
