-- The clauses of the checks and passes, put together into those of the whole sequence.
use Rattle.std.proofs.Common.{◌≡◌, ◌∙◌, ◌⊎◌, inl, inr, ◌≤◌, true, Bool, List, [], ◌++◌, ◌↔◌, All, map, arith}
use Rattle.std.proofs.Common.{append-nil, refl, sym, ap, subst}
use Rattle.std.specs.List.{IsDistinct}
use Rattle.rc_hir.specs.Model.{Environment, Fault, HirFunction}
use Rattle.rc_hir.specs.declared.fault.Fault.TheVariants as faults
use Rattle.rc_names.specs.Numbers.{EvaluationOrder, ScopeId, same_id, times}
use Rattle.rc_tree.proofs.DistinctLemmas.{at_most_once, times-append}
use Rattle.rc_tree.specs.Decided.{FateRule, FateRules, IsDecidedBy, IsFateBy, NoMore, Then}
use Rattle.rc_tree.specs.Decided.{decided as decided_scopes}
use Rattle.rc_tree.specs.inside.DecisionLogs.{AreDecidedBy}
use Rattle.rc_tree.specs.Model.{ReactiveBlock, ReactiveFunction}
use Rattle.rc_runs.specs.BodyRun.{IsBodyRun}
use Rattle.rc_runs.specs.EarlyReturns.{NoEarlyReturnSet}
use Rattle.rc_runs.specs.Erase.{erased}
use Rattle.rc_runs.specs.Event.{Event, End}
use Rattle.rc_runs.specs.Spelled.{Spells, with_header}
use Rattle.rc_runs.proofs.ErasedRuns.{same_erased_same_runs}
use Rattle.rc_checks.proofs.UnusedScopes.Decided.{unused_decided}
use Rattle.rc_checks.specs.UnusedScopes.{unused_rule}
use Rattle.rc_checks.specs.Membership.{IsInside, IsLastOutside}
use Rattle.rc_checks.proofs.ScopeBlocks.ContentsLemmas.{same_scopes}
use Rattle.rc_checks.specs.ScopeBlocks.{ScopeBlock}
use Rattle.rc_tree.specs.ScopesIn.{HasScopesOnce, scopes_in}
use Rattle.rc_tree.specs.Visits.{visits_of}
use Rattle.rc_tree.specs.declared.fate.Fate.{Fate}
use Rattle.rc_tree.specs.declared.fate.Fate.TheVariants.{NotEscaping}
use Rattle.rc_tree.specs.declared.fate.ScopeFate.{ScopeFate}
use Rattle.rc_pipe.specs.Headline.{IsAccepted, IsCause}
use Rattle.rc_pipe.specs.Passes.{AfterEarlyReturns, AfterEscape, AfterLabels, AreInside, EndsOutside, HasOthersPruned}
use Rattle.rc_pipe.specs.Passes.{IsPruned, PassState, fate_rules, other_rules, state}
use Rattle.rc_pipe.specs.inside.PassFaults.{IsPassFault}
use Rattle.rc_pipe.specs.declared.passes.Decisions.{Decisions}
use Rattle.rc_order.specs.Order.{AreInOrder}
use Rattle.rc_pipe.specs.Explained.{AreTold}
use Rattle.rc_pipe.specs.inside.PrunedParts.{AreOthersTold, HasScopesPruned, IsChecked, IsPrunedWith}
use Rattle.rc_escape.proofs.NotEscaping.Decided.{not_escaping_decided}
use Rattle.rc_escape.specs.NotEscaping.{not_escaping_rule}
use Rattle.rc_escape.specs.Outputs.{is_dissolved}
use Rattle.rc_escape.specs.WholeRecord.{IsEscapeFault}
use Rattle.rc_flow.proofs.AlwaysInvalidating.DecidedScopes.{invalidating_decided}
use Rattle.rc_memo.specs.TreeEvents.{events_in}
use Rattle.rc_merge.specs.Merged.{merging_rule}
use Rattle.rc_pipe.proofs.EventsStay.{events_stay, same_node, same_scope}
use Rattle.rc_merge.proofs.DecidedByRule.{IsOfMerging, gives_own, merging_decided}
use Rattle.rc_merge.proofs.EarlyReturnsStay.{still_none as merged_none}
use Rattle.rc_pipe.proofs.EnvironmentStays.{still_none}
use Rattle.rc_pipe.proofs.RunsElsewhere.{runs_with_scopes}

-- the passes on other scopes change only the scopes of the environment, and set no early return
module _ {before after : PassState} {log : List ScopeFate} (parts : HasOthersPruned before after log) where
  pub only_scopes : after.env ≡ record before.env { scopes = parts.merged.env.scopes }
  only_scopes =
      let with_scopes : Environment → Environment = λ env. record env { scopes = parts.merged.env.scopes } in
      parts.invalidating.kept_environment ∙ parts.merges.scopes.environment
      ∙ ap with_scopes (parts.scopes.kept_environment ∙ parts.dependencies.scopes.others)

  pub none_set : NoEarlyReturnSet before.env → NoEarlyReturnSet after.env
  none_set none =
      let used : NoEarlyReturnSet parts.used.env = subst NoEarlyReturnSet (sym parts.scopes.kept_environment)
      (still_none before.env parts.reactive.env parts.dependencies.scopes none) in
      subst NoEarlyReturnSet (sym parts.invalidating.kept_environment)
      (merged_none parts.used.func.body parts.used.env parts.merged.func.body parts.merged.env parts.joined
      parts.merges.scopes used)

-- runs that are kept up to a function are kept where its scopes are pruned, with the environment that this leaves,
-- where no scope has an early return
pub runs_through : (old new : Environment) (first labeled escaping last : ReactiveFunction) (log : List ScopeFate)
    → ((events : List Event) (end : End) → IsBodyRun first old events end ↔ IsBodyRun labeled old events end)
    → erased escaping ≡ erased labeled → erased last ≡ erased escaping
    → HasOthersPruned (state escaping old) (state last new) log → NoEarlyReturnSet old
    → (events : List Event) (end : End) → IsBodyRun first old events end ↔ IsBodyRun last new events end
runs_through old new first labeled escaping last log same one other parts none events end =
    let here = same events end in
    let there = same_erased_same_runs old none events end last labeled (other ∙ one) in
    let scopes = parts.merged.env.scopes in
    let left = only_scopes parts in
    let still = subst NoEarlyReturnSet left (none_set parts none) in
    let elsewhere = runs_with_scopes old scopes none still last events end in (
      λ run. subst (λ env. IsBodyRun last env events end) (sym left) (elsewhere.0 (there.1 (here.0 run))),
      λ run. here.1 (there.0 (elsewhere.1 (subst (λ env. IsBodyRun last env events end) left run))),
    )

-- runs that are kept by the passes before early returns are kept by those
pub runs_after : (first between last : ReactiveFunction) (old middle new : Environment)
    → ((events : List Event) (end : End) → IsBodyRun first old events end ↔ IsBodyRun between middle events end)
    → ((events : List Event) (end : End) → IsBodyRun between middle events end ↔ IsBodyRun last new events end)
    → (events : List Event) (end : End) → IsBodyRun first old events end ↔ IsBodyRun last new events end
runs_after first between last old middle new one other events end =
    let here = one events end in
    let there = other events end in
    (λ run. there.0 (here.0 run), λ run. here.1 (there.1 run))

-- the passes before early returns, and those
module _ {explain : Bool} {spelled between pruned : PassState} {decisions : Decisions}
    (parts : HasScopesPruned explain spelled between decisions) (returns : AfterEarlyReturns between pruned) where
  abbrev every_pass : IsPruned spelled pruned
  every_pass = record {
    labeled = parts.labeled;
    labels = parts.checked.labels;
    inside = parts.checked.inside;
    escaping = parts.escaping;
    not_escaping = parts.not_escaping;
    escapes = parts.escapes;
    invalidated = between;
    decided = parts.log;
    others = parts.others;
    early_returns = returns;
  }

  -- what was told before early returns is told of all passes
  explained : (decisions.spelled ≡ [])
      ⊎ (AreInOrder parts.escapes.scopes.without.set decisions.told.memoized
      × AreOthersTold parts.others decisions.told.received decisions.told.merged decisions.told.causes)
      → (decisions.spelled ≡ []) ⊎ AreTold every_pass decisions.told
  explained (inl none) = inl none
  explained (inr told) = inr (record {
    memoized = told.0;
    received = told.1.received;
    merged = told.1.merged;
    causes = told.1.causes;
    each = told.1.each;
  })

  pub all_passes : IsPrunedWith explain spelled pruned decisions
  all_passes = record {
    passes = every_pass;
    listed = parts.listed;
    told = parts.told;
    explained = λ asked. explained (parts.explained asked);
    needed = parts.needed;
  }

-- each pass may run out of memory
pub memory_fault : (spelled : PassState) (fault : Fault) → fault ≡ faults.NoMemory → IsPassFault spelled fault
memory_fault spelled fault memory = subst (IsPassFault spelled) (sym memory) tt

-- a refusal of the escape pass, after unused labels are pruned, is a fault of the passes
pub escape_fault : (env : Environment) (spelled labeled : ReactiveFunction)
    → IsChecked (state spelled env) (state labeled env) → (fault : Fault) → IsEscapeFault env labeled fault
    → IsPassFault (state spelled env) fault
escape_fault env spelled labeled checked = by
  where
    params : labeled.params ≡ spelled.params
    params = ap (λ f. f.params) checked.labels.header

    events : events_in env labeled.body ≡ events_in env spelled.body
    events = sym (events_stay env spelled.body labeled.body checked.labels.labels)

    by : (fault : Fault) → IsEscapeFault env labeled fault → IsPassFault (state spelled env) fault
    by (faults.Uninitialised name) lacks =
        (checked.inside, same_node env labeled spelled params events name lacks)
    by (faults.NoScopeNode scope) lacks =
        (checked.inside, same_scope env labeled spelled params events scope lacks)
    by faults.NoMemory memory = tt
    by (faults.Malformed block rule) never = absurd never
    by (faults.Todo block) never = absurd never
    by (faults.EarlyReturnSet scope) never = absurd never
    by (faults.ScopeCompleted id scope) never = absurd never
    by (faults.BadName table index) never = absurd never
    by faults.NoIds never = absurd never
    by (faults.BadTarget target) never = absurd never
    by (faults.FunctionCycle function) never = absurd never

-- the scope blocks of a function without its unused labels are those of the spelled one
pub labels_keep_scopes : {spelled labeled : PassState} → AfterLabels spelled labeled
    → scopes_in labeled.func.body ≡ scopes_in spelled.func.body
labels_keep_scopes {spelled} {labeled} labels = same_scopes labeled.func.body
    ∙ ap (map (λ (block : ScopeBlock). block.scope)) labels.kept_scope_blocks ∙ sym (same_scopes spelled.func.body)

module _ (env : Environment) (spelled labeled : ReactiveFunction)
    (labels : AfterLabels (state spelled env) (state labeled env))
    (kept_visits : visits_of env.functions labeled.body ≡ visits_of env.functions spelled.body) where
  kept_scopes : scopes_in labeled.body ≡ scopes_in spelled.body
  kept_scopes = labels_keep_scopes labels

  -- operands inside the scopes of the function without its unused labels are inside those of the spelled one
  inside_spelled : AreInside env labeled.body → AreInside env spelled.body
  inside_spelled inside =
      subst (λ visits. All (IsInside env (scopes_in spelled.body)) visits) kept_visits
      (subst (λ scopes. All (IsInside env scopes) (visits_of env.functions labeled.body)) kept_scopes inside)

  -- the same for operands outside
  outside_spelled : (id : EvaluationOrder) (scope : ScopeId) → EndsOutside env labeled.body id scope
      → EndsOutside env spelled.body id scope
  outside_spelled id scope last =
      subst (λ visits. IsLastOutside env (scopes_in spelled.body) visits id scope) kept_visits
      (subst (λ scopes. IsLastOutside env scopes (visits_of env.functions labeled.body) id scope) kept_scopes last)

  -- a function that lost its unused labels, and whose operands are inside, is checked
  pub checked : AreInside env labeled.body → IsChecked (state spelled env) (state labeled env)
  checked inside = record { labels = labels; inside = inside_spelled inside }

  -- a refusal of the check of operands, after unused labels are pruned, is a fault of the passes
  pub outside_fault : (fault : Fault)
      → ((id : EvaluationOrder) (scope : ScopeId) → fault ≡ faults.ScopeCompleted id scope
      → EndsOutside env labeled.body id scope)
      → (fault ≡ faults.NoMemory)
      ⊎ ((id : EvaluationOrder) × (scope : ScopeId) × (fault ≡ faults.ScopeCompleted id scope))
      → IsPassFault (state spelled env) fault
  outside_fault fault completed (inl memory) = subst (IsPassFault (state spelled env)) (sym memory) tt
  outside_fault fault completed (inr it) =
      subst (IsPassFault (state spelled env)) (sym it.2)
      (outside_spelled it.0 it.1 (completed it.0 it.1 it.2))

-- a refusal of a spelled function by the passes has a cause
pub pass_cause : (hir : HirFunction) (env : Environment) → IsAccepted hir env
    → (func : ReactiveFunction) → Spells hir env func → (fault : Fault) → IsPassFault (state func env) fault
    → IsCause hir env fault
pass_cause hir env accepted func spelled (faults.ScopeCompleted id scope) last =
    (accepted, (func, spelled, last))
pass_cause hir env accepted func spelled (faults.Uninitialised declaration) fault =
    (accepted, (func, spelled, fault.0, fault.1))
pass_cause hir env accepted func spelled (faults.NoScopeNode scope) fault =
    (accepted, (func, spelled, fault.0, fault.1))
pass_cause hir env accepted func spelled faults.NoMemory fault = tt
pass_cause hir env accepted func spelled (faults.Malformed block rule) fault = absurd fault
pass_cause hir env accepted func spelled (faults.Todo block) fault = absurd fault
pass_cause hir env accepted func spelled (faults.EarlyReturnSet scope) fault = absurd fault
pass_cause hir env accepted func spelled (faults.BadName table index) fault = absurd fault
pass_cause hir env accepted func spelled faults.NoIds fault = absurd fault
pass_cause hir env accepted func spelled (faults.BadTarget target) fault = absurd fault
pass_cause hir env accepted func spelled (faults.FunctionCycle function) fault = absurd fault

-- so each scope has one block there if it has one in the spelled function
pub labels_keep_once : {spelled labeled : PassState} → AfterLabels spelled labeled → HasScopesOnce spelled.func.body
    → HasScopesOnce labeled.func.body
labels_keep_once labels once = subst (IsDistinct same_id) (sym (labels_keep_scopes labels)) once

-- a pass that received the same scope blocks decided the same of them
received : (rule : FateRule) (before other after : ReactiveBlock) (log : List ScopeFate)
    → scopes_in before ≡ scopes_in other → IsDecidedBy rule before after log → IsDecidedBy rule other after log
received rule before other after log same is = record {
  right = is.right;
  never_kept = is.never_kept;
  all = λ scope some. is.all scope (subst (λ scopes. 1 ≤ times scope scopes) (sym same) some);
  lost = λ scope. ap (times scope) (sym same) ∙ is.lost scope;
}

-- a pass makes no scope block
pub fewer : (rule : FateRule) (before after : ReactiveBlock) (log : List ScopeFate) → IsDecidedBy rule before after log
    → (scope : ScopeId) → times scope (scopes_in after) ≤ times scope (scopes_in before)
fewer rule before after log is scope =
    let lost = is.lost scope in
    let parts = times-append scope (scopes_in after) (decided_scopes log) in
    omega (arith, lost, parts)

-- nor do passes that follow each other
pub no_more : (rules : FateRules) (before after : ReactiveBlock) (log : List ScopeFate)
    → AreDecidedBy rules before after log → (scope : ScopeId)
    → times scope (scopes_in after) ≤ times scope (scopes_in before)
no_more NoMore before after log are scope = let same = ap (times scope) are.0 in omega (arith, same)
no_more (Then rule rest) before after log are scope =
    let first = fewer rule before are.0 are.1 are.4 scope in
    let later = no_more rest are.0 after are.2 are.5 scope in
    omega (arith, first, later)

-- only the scope blocks of what passes left count
left_alike : (rules : FateRules) (before after other : ReactiveBlock) (log : List ScopeFate)
    → scopes_in after ≡ scopes_in other → AreDecidedBy rules before after log → AreDecidedBy rules before other log
left_alike NoMore before after other log same are = (are.0 ∙ same, are.1)
left_alike (Then rule rest) before after other log same are =
    (are.0, are.1, are.2, are.3, are.4, left_alike rest are.0 after other are.2 same are.5)

-- what the escape pass decided, by its rule
pub escape_decided : {spelled labeled escaping : PassState} {log : List ScopeFate} → AfterLabels spelled labeled
    → (escapes : AfterEscape labeled escaping log)
    → IsDecidedBy (not_escaping_rule labeled.env escapes.scopes.without.set) spelled.func.body escaping.func.body log
escape_decided {spelled} {labeled} {escaping} {log} labels escapes =
    received _ labeled.func.body spelled.func.body escaping.func.body log (labels_keep_scopes labels)
    (not_escaping_decided labeled.env labeled.func escaping.func.body log escapes.scopes)

-- what each of the other passes decided, by its rule
module _ {before after : PassState} {log : List ScopeFate} (parts : HasOthersPruned before after log) where
  by_use : IsDecidedBy (unused_rule parts.reactive.env parts.reactive.func.body) before.func.body
      parts.used.func.body parts.unused
  by_use = received _ parts.reactive.func.body before.func.body parts.used.func.body parts.unused
      (ap (λ f. scopes_in f.body) parts.dependencies.kept_function)
      (unused_decided parts.reactive.env parts.reactive.func.body parts.used.func.body parts.unused parts.scopes.scopes)

  by_merging : IsDecidedBy (merging_rule parts.used.env parts.used.func.body) parts.used.func.body
      parts.merged.func.body parts.joined
  by_merging = merging_decided parts.used.func.body parts.used.env parts.merged.func.body parts.merged.env
      parts.joined parts.merges.scopes

  module _ (once : (scope : ScopeId) → times scope (scopes_in before.func.body) ≤ 1) where
    merged_once : (scope : ScopeId) → times scope (scopes_in parts.merged.func.body) ≤ 1
    merged_once scope =
        let used = fewer _ before.func.body parts.used.func.body parts.unused by_use scope in
        let merged = fewer _ parts.used.func.body parts.merged.func.body parts.joined by_merging scope in
        let most = once scope in
        omega (arith, used, merged, most)

    pub others_decided : AreDecidedBy (other_rules parts) before.func.body after.func.body log
    others_decided = (
      parts.used.func.body,
      parts.unused,
      parts.joined ++ parts.always_invalidating,
      parts.told,
      by_use,
      (
        parts.merged.func.body,
        parts.joined,
        parts.always_invalidating,
        refl,
        by_merging,
        (
          after.func.body,
          parts.always_invalidating,
          [],
          sym (append-nil parts.always_invalidating),
          invalidating_decided parts.merged.env parts.merged.func.body after.func.body parts.always_invalidating
              parts.invalidating.scopes merged_once,
          (refl, refl),
        ),
      ),
    )

module _ {spelled pruned : PassState} (passes : IsPruned spelled pruned) where
  by_escape : IsDecidedBy (not_escaping_rule passes.labeled.env passes.escapes.scopes.without.set) spelled.func.body
      passes.escaping.func.body passes.not_escaping
  by_escape = escape_decided passes.labels passes.escapes

  -- the fate of the escape pass comes by its rule alone
  pub not_escaping_first : (scope : ScopeId) → IsFateBy (fate_rules passes) scope NotEscaping
      → is_dissolved passes.labeled.env passes.escapes.scopes.without.set scope ≡ true
  not_escaping_first scope (inl rule) = rule.1
  not_escaping_first scope (inr (none, inl rule)) = absurd (let no : ⊥ = cc in no)
  not_escaping_first scope (inr (none, inr (used, inl rule))) =
      absurd (gives_own passes.others.used.env passes.others.used.func.body scope NotEscaping rule)
  not_escaping_first scope (inr (none, inr (used, inr (apart, inl rule)))) = absurd (let no : ⊥ = cc in no)
  not_escaping_first scope (inr (none, inr (used, inr (apart, inr (stays, kept))))) = absurd (let no : ⊥ = cc in no)

  -- and a fate that merging gives by its own
  pub merging_first : (scope : ScopeId) (fate : Fate) → IsOfMerging fate → IsFateBy (fate_rules passes) scope fate
      → merging_rule passes.others.used.env passes.others.used.func.body scope fate
  merging_first scope fate of (inl rule) = absurd (subst IsOfMerging rule.0 of)
  merging_first scope fate of (inr (escapes, inl rule)) = absurd (subst IsOfMerging rule.0 of)
  merging_first scope fate of (inr (escapes, inr (used, inl rule))) = rule
  merging_first scope fate of (inr (escapes, inr (used, inr (apart, inl rule)))) = absurd (subst IsOfMerging rule.0 of)
  merging_first scope fate of (inr (escapes, inr (used, inr (apart, inr (stays, kept))))) =
      absurd (subst IsOfMerging kept of)

  decided_by_all : HasScopesOnce spelled.func.body
      → AreDecidedBy (fate_rules passes) spelled.func.body pruned.func.body (passes.not_escaping ++ passes.decided)
  decided_by_all once = (
    passes.escaping.func.body,
    passes.not_escaping,
    passes.decided,
    refl,
    by_escape,
    left_alike (other_rules passes.others) passes.escaping.func.body passes.invalidated.func.body pruned.func.body
        passes.decided (sym passes.early_returns.kept_scopes)
        (others_decided passes.others (λ scope.
        let most = at_most_once (scopes_in spelled.func.body) once scope in
        let left = fewer _ spelled.func.body passes.escaping.func.body passes.not_escaping by_escape scope in
        omega (arith, most, left))),
  )

-- the passes decided by their rules, one after the other
pub decided : {explain : Bool} {spelled pruned : PassState} {decisions : Decisions}
    (parts : IsPrunedWith explain spelled pruned decisions) → HasScopesOnce spelled.func.body
    → AreDecidedBy (fate_rules parts.passes) spelled.func.body pruned.func.body decisions.log
decided {spelled = spelled} {pruned = pruned} parts once =
    subst (AreDecidedBy (fate_rules parts.passes) spelled.func.body pruned.func.body) (sym parts.told)
    (decided_by_all parts.passes once)

-- a function has the header of a graph
abbrev IsHeaded : HirFunction → ReactiveFunction → Type 0
IsHeaded hir func = func ≡ with_header hir func.body

still_headed : (hir : HirFunction) (old new : ReactiveFunction) → new ≡ record old { body = new.body }
    → IsHeaded hir old → IsHeaded hir new
still_headed hir old new header is =
    let with_body : ReactiveFunction → ReactiveFunction = λ f. record f { body = new.body } in
    header ∙ ap with_body is

-- the passes keep the header that the spelled function has from its graph
pub graph_header : {hir : HirFunction} {env : Environment} {func : ReactiveFunction} {pruned : PassState}
    → Spells hir env func → IsPruned (state func env) pruned → IsHeaded hir pruned.func
graph_header {hir} {env} {func} {pruned} spelled passes =
    let headed : ReactiveFunction → ReactiveFunction = λ f. with_header hir f.body in
    let others = passes.others in
    still_headed hir passes.invalidated.func pruned.func passes.early_returns.header
    (still_headed hir others.merged.func passes.invalidated.func others.invalidating.header
    (still_headed hir others.used.func others.merged.func others.merges.header
    (still_headed hir others.reactive.func others.used.func others.scopes.header
    (subst (IsHeaded hir) (sym others.dependencies.kept_function)
    (still_headed hir passes.labeled.func passes.escaping.func passes.escapes.header
    (still_headed hir func passes.labeled.func passes.labels.header
    (spelled.whole ∙ ap headed (sym spelled.whole))))))))
