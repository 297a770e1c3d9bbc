-- Causes exclude graphs that are accepted and have an answer. If the builder refuses an accepted graph, there is a
-- cause.
use Rattle.std.proofs.Common.{◌≡◌, ◌∙◌, [], Some, None, Contains, map, arith, refl, ap, subst}
use Rattle.rc_hir.specs.Model.{Fault, HirFunction, Environment}
use Rattle.rc_hir.specs.declared.fault.Fault.TheVariants as faults
use Rattle.rc_tree.specs.Model.{ReactiveFunction}
use Rattle.rc_runs.specs.EarlyReturns.{first_early_return}
use Rattle.rc_runs.proofs.NamesOutsideLemmas.{no_name_outside}
use Rattle.rc_runs.proofs.OneTree.{spells_one_function}
use Rattle.rc_build.specs.BuildCauses.{IsBuildCause}
use Rattle.rc_escape.proofs.OneRecord.{one_record}
use Rattle.rc_escape.specs.MemoSet.{scopes_without_record}
use Rattle.rc_escape.specs.WholeRecord.{HasWholeRecord, LacksNode, LacksScope}
use Rattle.rc_memo.specs.Events.{facts_told}
use Rattle.rc_memo.specs.Facts.{first_missing}
use Rattle.rc_memo.specs.Record.{param_name}
use Rattle.rc_memo.specs.TreeEvents.{events_in}
use Rattle.rc_names.specs.Numbers.{DeclarationId, ScopeId}
use Rattle.rc_pipe.specs.Headline.{HasAnswer, IsAccepted, IsCause}
use Rattle.rc_pipe.specs.Passes.{EndsOutside}
use Rattle.rc_pipe.proofs.OutsideLemmas.{last_outside}

-- a whole record lacks no node and no scope
module _ {env : Environment} (func : ReactiveFunction) (whole : HasWholeRecord env func) where
  whole_record : (name : DeclarationId) → LacksNode env func name → ⊥
  whole_record name some =
      let none : first_missing [] (facts_told (map (param_name env) func.params) (events_in env func.body)) ≡ None =
      whole.recorded.complete in let no : ⊥ = cc in no

  whole_scopes : (scope : ScopeId) → LacksScope env func scope → ⊥
  whole_scopes scope some =
      let same = one_record func env some.rec whole.rec some.recorded whole.recorded in
      let among : Contains [] scope =
      subst (λ scopes. Contains scopes scope) (ap scopes_without_record same ∙ whole.whole) some.lowest.among in
      omega (arith, among.1)

module _ (hir : HirFunction) (env : Environment) (accepted : IsAccepted hir env) where
  -- a graph that is accepted and has an answer is refused only when out of memory
  pub only_memory : (func : ReactiveFunction) → HasAnswer hir env func → (fault : Fault) → IsCause hir env fault
      → fault ≡ faults.NoMemory
  only_memory func answer (faults.BadName table index) cause =
      absurd (no_name_outside hir env accepted.names (faults.BadName table index) cause)
  only_memory func answer (faults.EarlyReturnSet scope) cause =
      absurd (let some : first_early_return env ≡ Some scope.0 = cause.1 in
      let none : first_early_return env ≡ None = accepted.no_early_return in let no : ⊥ = cc in no)
  only_memory func answer faults.NoIds cause = absurd (cause.2 accepted.room)
  only_memory func answer (faults.Malformed block rule) cause = absurd (cause.1 func answer.spelled)
  only_memory func answer faults.NoMemory cause = refl
  only_memory func answer (faults.Todo block) cause = absurd (cause.1 func answer.spelled)
  only_memory func answer (faults.ScopeCompleted id scope) cause =
      let one : cause.1.0 ≡ func = spells_one_function cause.1.1 answer.spelled in
      let last : EndsOutside env func.body id scope = subst (λ f. EndsOutside env f.body id scope) one cause.1.2 in
      absurd (last_outside env func.body id scope answer.inside last)
  only_memory func answer (faults.Uninitialised declaration) cause =
      let one : cause.1.0 ≡ func = spells_one_function cause.1.1 answer.spelled in
      let some : LacksNode env func declaration = subst (λ f. LacksNode env f declaration) one cause.1.3 in
      absurd (whole_record func answer.recorded declaration some)
  only_memory func answer (faults.NoScopeNode scope) cause =
      let one : cause.1.0 ≡ func = spells_one_function cause.1.1 answer.spelled in
      let some : LacksScope env func scope = subst (λ f. LacksScope env f scope) one cause.1.3 in
      absurd (whole_scopes func answer.recorded scope some)
  only_memory func answer (faults.BadTarget target) cause = absurd cause
  only_memory func answer (faults.FunctionCycle function) cause = absurd cause

  -- the builder's reason to refuse an accepted graph is a cause
  pub build_cause : (fault : Fault) → IsBuildCause hir env fault → IsCause hir env fault
  build_cause (faults.BadName table index) cause = cause
  build_cause (faults.Malformed block rule) cause = (accepted, cause.1, cause.2)
  build_cause faults.NoMemory cause = tt
  build_cause (faults.Todo block) cause = (accepted, cause.1, cause.2)
  build_cause (faults.EarlyReturnSet scope) cause = absurd cause
  build_cause (faults.ScopeCompleted id scope) cause = absurd cause
  build_cause (faults.Uninitialised declaration) cause = absurd cause
  build_cause (faults.NoScopeNode scope) cause = absurd cause
  build_cause faults.NoIds cause = absurd cause
  build_cause (faults.BadTarget target) cause = absurd cause
  build_cause (faults.FunctionCycle function) cause = absurd cause
