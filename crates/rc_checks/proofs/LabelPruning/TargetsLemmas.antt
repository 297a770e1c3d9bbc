-- Label pruning changes no block that a label names, and a break out of a form names one of the targets after it.
use Rattle.std.proofs.Common.{◌≡◌, List, Bool, true, false, Option, Some, None, if◌then◌else◌}
use Rattle.std.proofs.Common.{refl, sym, ap, ◌∙◌, subst}
use Rattle.std.proofs.lemmas.Bool.{or_left, or_right}
use Rattle.std.specs.Cmp.{nat_cmp_total, tied_itself}
use Rattle.std.specs.FinSet.{contains-insert, insert}
use Rattle.std.specs.Ordering.{eq_by_cmp, is_eq, nat_cmp}
use Rattle.rc_names.specs.Numbers.{BlockId, EvaluationOrder, ScopeId, same_id}
use Rattle.rc_names.specs.declared.span.Span.{Span}
use Rattle.rc_hir.specs.Model.{Environment, Place}
use Rattle.rc_tree.specs.Model.{ReactiveTerminalTargetKind, ReactiveLabel}
use Rattle.rc_tree.specs.declared.kind.ReactiveTerminalTargetKind.TheVariants.{Implicit, Labeled, Unlabeled}
use Rattle.rc_runs.specs.Event.{Event}
use Rattle.rc_runs.specs.PlainTree.{Value, Statements, Nil, Cons, Statement, RowStatement, TerminalStatement}
use Rattle.rc_runs.specs.PlainTree.{ScopeStatement, PrunedScopeStatement, Break, Continue, Return, Throw, If, Label}
use Rattle.rc_runs.specs.PlainTree.{Try, Alternate, Absent, Present}
use Rattle.rc_runs.specs.ValueRun.{Progress, Done, Short, Inside}
use Rattle.rc_runs.specs.Completion.{Completion, Normal, BreakTo, BreakInnermost, ContinueTo, ContinueLoop, Ended, caught}
use Rattle.rc_runs.specs.Completion.{row_completion}
use Rattle.rc_runs.specs.BodyRun.{RunsList, stopped, nothing, and_then, goes_on, leaves_list, RunsStatement, row}
use Rattle.rc_runs.specs.BodyRun.{returned, thrown, break_implicit, break_labeled, break_unlabeled, continue_implicit}
use Rattle.rc_runs.specs.BodyRun.{continue_labeled, continue_unlabeled, took_arm, took_other, in_label, in_try}
use Rattle.rc_runs.specs.BodyRun.{in_handler, in_scope, in_pruned_scope, RunsAlternate, absent, present}
use Rattle.rc_names.proofs.NumbersLemmas.{same_id-eq}
use Rattle.rc_runs.proofs.LabelLemmas.{NameAlike}
use Rattle.rc_checks.specs.Labels.{Targets, is_target, with_jump, is_named, label_after}

-- the block stays a target
abbrev Stays : BlockId → Targets → Targets → Type 0
Stays block targets targets' = is_target targets block ≡ true → is_target targets' block ≡ true

-- each target stays one
abbrev pub AllStay : Targets → Targets → Type 0
AllStay targets targets' = (block : BlockId) → Stays block targets targets'

-- where another block is put in
is_target-insert : (targets : Targets) (target block : BlockId) → Stays block targets (insert targets target.0)
is_target-insert targets target block e =
    contains-insert nat_cmp_total targets target.0 block.0 ∙ or_right (eq_by_cmp nat_cmp block.0 target.0) _ e

-- a block that is put in is a target
is_target-inserted : (targets : Targets) (target : BlockId) → is_target (insert targets target.0) target ≡ true
is_target-inserted targets target =
    contains-insert nat_cmp_total targets target.0 target.0
    ∙ or_left (eq_by_cmp nat_cmp target.0 target.0) _ (ap is_eq (tied_itself nat_cmp_total target.0))

pub is_target-with_jump : (kind : ReactiveTerminalTargetKind) (target : BlockId) (targets : Targets) →
    AllStay targets (with_jump kind target targets)
is_target-with_jump Labeled target targets block e = is_target-insert targets target block e
is_target-with_jump Implicit target targets block e = e
is_target-with_jump Unlabeled target targets block e = e

-- a break that isn't caught is one inside
pub inner_break : (label : Option ReactiveLabel) (inner : Completion) (target : BlockId) →
    caught label inner ≡ BreakTo target → inner ≡ BreakTo target
inner_break None inner target e = e
inner_break (Some label) (BreakTo other) target e = go (same_id label.id other) e
  where
    go : (same : Bool) → (if same then Normal else BreakTo other) ≡ BreakTo target → BreakTo other ≡ BreakTo target
    go true e = absurd (let bad : ⊥ = cc in bad)
    go false e = e
inner_break (Some label) Normal target e = e
inner_break (Some label) BreakInnermost target e = e
inner_break (Some label) (ContinueTo other) target e = e
inner_break (Some label) ContinueLoop target e = e
inner_break (Some label) (Ended end) target e = e

-- a row leads to no jump
row_stays : (progress : Progress) (target : BlockId) → row_completion progress ≡ BreakTo target → ⊥
row_stays Done target e = cc
row_stays Short target e = cc
row_stays Inside target e = cc

same_break : (a b : BlockId) → BreakTo a ≡ BreakTo b → a ≡ b
same_break a b e = cc

-- where the part leads is no jump to a block, but to a target
abbrev pub Names : BlockId → Completion → Targets → Type 0
Names block outcome targets = outcome ≡ BreakTo block → is_target targets block ≡ true

-- each run out of a part that jumps to a block jumps to a target
abbrev pub AllNamed : (List Event → Completion → Type 0) → Targets → Type 0
AllNamed Runs targets = (events : List Event) (outcome : Completion) → Runs events outcome → (block : BlockId)
    → Names block outcome targets

-- the jumps out of each form name targets, where those out of its parts do
module _ (env : Environment) where
  pub nil_named : (targets : Targets) → AllNamed (RunsList env Nil) targets
  nil_named targets events outcome stopped block e = absurd (let bad : ⊥ = cc in bad)
  nil_named targets events outcome nothing block e = absurd (let bad : ⊥ = cc in bad)

  pub row_named : {id : EvaluationOrder} {target : Option Place} {value : Value} {span : Option Span}
      (targets : Targets) → AllNamed (RunsStatement env (RowStatement id target value span)) targets
  row_named targets events outcome (row {progress = progress} r q) block e =
      absurd (row_stays progress block (sym q ∙ e))

  pub return_named : {value : Place} {id : EvaluationOrder} {label : Option ReactiveLabel} (targets : Targets)
      → AllNamed (RunsStatement env (TerminalStatement (Return value id) label)) targets
  return_named targets events outcome returned block e = absurd (let bad : ⊥ = cc in bad)

  pub throw_named : {value : Place} {id : EvaluationOrder} {label : Option ReactiveLabel} (targets : Targets)
      → AllNamed (RunsStatement env (TerminalStatement (Throw value id) label)) targets
  throw_named targets events outcome thrown block e = absurd (let bad : ⊥ = cc in bad)

  pub break_named : {target : BlockId} {kind : ReactiveTerminalTargetKind} {id : EvaluationOrder}
      {label : Option ReactiveLabel} (targets : Targets)
      → AllNamed (RunsStatement env (TerminalStatement (Break target kind id) label)) (with_jump kind target targets)
  break_named targets events outcome break_implicit block e = absurd (let bad : ⊥ = cc in bad)
  break_named targets events outcome (break_labeled {target = target} {label = label} q) block e =
      let same = same_break target block (inner_break label (BreakTo target) block (sym q ∙ e)) in
      subst (λ b. is_target (insert targets target.0) b ≡ true) same (is_target-inserted targets target)
  break_named targets events outcome break_unlabeled block e = absurd (let bad : ⊥ = cc in bad)

  -- a continue leads to no break
  pub continue_named : {target : BlockId} {kind : ReactiveTerminalTargetKind} {id : EvaluationOrder}
      {label : Option ReactiveLabel} (targets : Targets)
      → AllNamed (RunsStatement env (TerminalStatement (Continue target kind id) label)) targets
  continue_named targets events outcome continue_implicit block e = absurd (let bad : ⊥ = cc in bad)
  continue_named targets events outcome continue_labeled block e = absurd (let bad : ⊥ = cc in bad)
  continue_named targets events outcome continue_unlabeled block e = absurd (let bad : ⊥ = cc in bad)

  module _ (targets : Targets) {body : Statements} (inside : AllNamed (RunsList env body) targets) where
    pub label_named : {id : EvaluationOrder} {label : Option ReactiveLabel}
        → AllNamed (RunsStatement env (TerminalStatement (Label body id) label)) targets
    label_named events outcome (in_label {label = label} {inner = inner} r q) block e =
        inside events inner r block (inner_break label inner block (sym q ∙ e))

    pub scope_named : {scope : ScopeId} → AllNamed (RunsStatement env (ScopeStatement scope body)) targets
    scope_named events outcome (in_scope r) = inside events outcome r

    pub pruned_scope_named : {scope : ScopeId} → AllNamed (RunsStatement env (PrunedScopeStatement scope body)) targets
    pruned_scope_named events outcome (in_pruned_scope r) = inside events outcome r

    pub present_named : AllNamed (RunsAlternate env (Present body)) targets
    present_named events outcome (present r) = inside events outcome r

  pub absent_named : (targets : Targets) → AllNamed (RunsAlternate env Absent) targets
  absent_named targets events outcome absent block e = absurd (let bad : ⊥ = cc in bad)

  -- one part and then another, after which the targets of the first are still targets
  module _ (targets targets' : Targets) (stay : AllStay targets targets') where
    pub cons_named : {statement : Statement} {rest : Statements} → AllNamed (RunsStatement env statement) targets
        → AllNamed (RunsList env rest) targets' → AllNamed (RunsList env (Cons statement rest)) targets'
    cons_named first later events outcome stopped block e = absurd (let bad : ⊥ = cc in bad)
    cons_named first later events outcome (and_then r (goes_on h) q) block e = later _ outcome h block e
    cons_named first later events outcome (and_then r (leaves_list l) q) block e =
        stay block (first _ outcome r block e)

    pub if_named : {test : Place} {consequent : Statements} {alternate : Alternate} {id : EvaluationOrder}
        {label : Option ReactiveLabel} → AllNamed (RunsList env consequent) targets
        → AllNamed (RunsAlternate env alternate) targets'
        → AllNamed (RunsStatement env (TerminalStatement (If test consequent alternate id) label)) targets'
    if_named arm other events outcome (took_arm {label = label} {inner = inner} r q) block e =
        stay block (arm _ inner r block (inner_break label inner block (sym q ∙ e)))
    if_named arm other events outcome (took_other {label = label} {inner = inner} r q) block e =
        other _ inner r block (inner_break label inner block (sym q ∙ e))

    -- the jumps out of a try are those of its block, and those of its handler
    pub try_named : {body : Statements} {binding : Option Place} {handler : Statements} {id : EvaluationOrder}
        {label : Option ReactiveLabel} → AllNamed (RunsList env body) targets
        → AllNamed (RunsList env handler) targets'
        → AllNamed (RunsStatement env (TerminalStatement (Try body binding handler id) label)) targets'
    try_named first later events outcome (in_try {label = label} {inner = inner} r stays q) block e =
        stay block (first _ inner r block (inner_break label inner block (sym q ∙ e)))
    try_named first later events outcome (in_handler {label = label} {inner = inner} r reaches h q w) block e =
        later _ inner h block (inner_break label inner block (sym q ∙ e))

-- a label that nothing names catches nothing
pub caught-unnamed : (label : Option ReactiveLabel) (outcome : Completion) (targets : Targets) →
    is_named targets label ≡ false → ((block : BlockId) → Names block outcome targets) → caught label outcome ≡ outcome
caught-unnamed None outcome targets unnamed names = refl
caught-unnamed (Some label) (BreakTo target) targets unnamed names = go (same_id label.id target) refl
  where
    go : (same : Bool) → same_id label.id target ≡ same → (if same then Normal else BreakTo target) ≡ BreakTo target
    go false e = refl
    go true e =
        let here : label.id ≡ target = same_id-eq label.id target e in
        let named : is_target targets label.id ≡ true =
        subst (λ b. is_target targets b ≡ true) (sym here) (names target refl) in
        absurd (let bad : ⊥ = cc in bad)
caught-unnamed (Some label) Normal targets unnamed names = refl
caught-unnamed (Some label) BreakInnermost targets unnamed names = refl
caught-unnamed (Some label) (ContinueTo other) targets unnamed names = refl
caught-unnamed (Some label) ContinueLoop targets unnamed names = refl
caught-unnamed (Some label) (Ended end) targets unnamed names = refl

-- a label that is made implicit names the same block
pub label_after-alike : (targets : Targets) (label : Option ReactiveLabel) → NameAlike label (label_after targets label)
label_after-alike targets None = refl
label_after-alike targets (Some label) = go (is_target targets label.id)
  where
    go : (named : Bool) →
        NameAlike (Some label) (Some (if named then label else record { id = label.id; implicit = true }))
    go true = refl
    go false = refl
