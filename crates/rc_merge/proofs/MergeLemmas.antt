-- The walk of merging follows its rules: the nearest scope block around is set aside and found again, an answer is that
-- of the rule, and a list becomes what it becomes step by step.
use Rattle.std.proofs.Common.{◌≡◌, ◌∙◌, ◌↔◌, ◌⊎◌, ◌-◌, Bool, true, false, List, [], ◌∷◌, ◌++◌, Option, None, Some}
use Rattle.std.proofs.Common.{Result, Ok, Err, IsNone, IfSome, IfNone, IfErr, OnOk, inl, inr, refl, sym, ap, subst}
use Rattle.std.proofs.Common.{length, take, unwrap_or, arith}
use Rattle.std.proofs.lemmas.List.{length-append}
use Rattle.std.proofs.lemmas.Result.{IfErr-weaker, on_ok_weaker}
use Rattle.std.proofs.Math.Seq.{take-append_seam}
use Rattle.std.specs.List.{last_or}
use Rattle.rc_hir.specs.Model.{Environment, Fault, HirFunction, ReactiveScope}
use Rattle.rc_hir.specs.declared.fault.Fault.TheVariants.{NoMemory}
use Rattle.rc_names.specs.Numbers.{ScopeId}
use Rattle.rc_tree.proofs.RebuiltFaultsLemmas.{rebuilt_faults}
use Rattle.rc_tree.proofs.StatementsNoDeeper.{over_statements_no_deeper}
use Rattle.rc_tree.proofs.StatementsRefineLemmas.{statements_rebuilt}
use Rattle.rc_tree.specs.Rebuilt.{rebuilt_block}
use Rattle.rc_tree.specs.Rewrite.{rewrite_block}
use Rattle.rc_tree.specs.StatementSteps.{over_statements}
use Rattle.rc_tree.specs.Step.{IsStep}
use Rattle.rc_tree.specs.Model.{ReactiveBlock, ReactiveScopeBlock, ReactiveStatement}
use Rattle.rc_tree.specs.declared.statement.ReactiveStatement.TheVariants as reactive
use Rattle.rc_tree.specs.inside.Refines.{RebuildsTo, StepAgrees}
use Rattle.rc_tree.specs.inside.RuleFaults.{FaultsOnly}
use Rattle.rc_tree.specs.inside.StatementsRefine.{StatementsRefine}
use Rattle.rc_merge.specs.LastUses.{LastUses}
use Rattle.rc_merge.specs.Merged.{gives_way}
use Rattle.rc_merge.specs.declared.facts.MergedFacts.{MergedFacts}
use Rattle.rc_merge.specs.declared.merge.Merging.{Merging}
use Rattle.rc_merge.specs.declared.tables.Tables.{Tables}
use Rattle.rc_merge.specs.inside.MergeSteps.{AreRebuilt, at, dissolved_if, last_around, merge_steps, outside_inside}
use Rattle.rc_merge.specs.inside.MergeSteps.{outside_scope, scope_answer, tables_of, without_last}
use Rattle.rc_merge.specs.inside.ListSteps.{Going}
use Rattle.rc_merge.specs.inside.OpenGroups.{going}
use Rattle.rc_merge.specs.inside.WentRules.{Met, gone_if, left_scope, none_met, went_rules}

abbrev Outside : Type 0
Outside = List (Option ScopeId)

last_or-append : (first : Option (Option ScopeId)) (outside : Outside) (around : Option ScopeId)
    → last_or first (outside ++ around ∷ []) ≡ Some around
last_or-append first [] around = refl
last_or-append first (other ∷ outside) around = last_or-append (Some other) outside around

take-before_last : (outside : Outside) (around : Option ScopeId)
    → take (length (outside ++ around ∷ []) - 1) (outside ++ around ∷ []) ≡ outside
take-before_last outside around =
    ap (λ n. take n (outside ++ around ∷ [])) (omega (arith, length-append outside (around ∷ [])))
    ∙ take-append_seam outside (around ∷ [])

-- popping takes the last entry off, and leaves the others
module _ (old new : Outside) (last : Option (Option ScopeId)) (none : IsNone last ↔ (old ≡ []))
    (some : IfSome last (λ around. old ≡ new ++ around ∷ [])) (left : IfNone last (new ≡ [])) where
  pub popped_around : unwrap_or last None ≡ last_around old
  popped_around = by last none some
    where
      by : (last : Option (Option ScopeId)) → (IsNone last ↔ (old ≡ []))
          → IfSome last (λ around. old ≡ new ++ around ∷ []) → unwrap_or last None ≡ last_around old
      by None none some = rw (none.0 refl) refl
      by (Some around) none some = rw (some, last_or-append None new around) refl

  pub popped_rest : new ≡ without_last old
  popped_rest = by last none some left
    where
      by : (last : Option (Option ScopeId)) → (IsNone last ↔ (old ≡ []))
          → IfSome last (λ around. old ≡ new ++ around ∷ []) → IfNone last (new ≡ []) → new ≡ without_last old
      by None none some left = rw (none.0 refl) left
      by (Some around) none some left = sym (ap without_last some ∙ take-before_last new around)

last_around-inside : (outside : Outside) (around : Option ScopeId) → last_around (outside ++ around ∷ []) ≡ around
last_around-inside outside around = rw (last_or-append None outside around) refl

-- after a scope block those around it are as in front of it
outside_scope-inside : (outside : Outside) (around : Option ScopeId) (s : Met)
    → outside_scope (at (outside ++ around ∷ []) s) ≡ at outside (record s { around = around })
outside_scope-inside outside around s =
    rw (last_or-append None outside around, take-before_last outside around) refl

-- what the walk's state and a block are after a list was merged
abbrev left_of : Merging → Tables → List ReactiveStatement → Result (Unit {0} × (Merging × ReactiveBlock)) Fault
left_of merging tables done = Ok (tt, (record merging { tables = tables }, record { statements = done }))

pub list_left : (merging : Merging) (done : List ReactiveStatement) (tables : Tables) (g : Going)
    → going (record { done = done; group = None }) tables ≡ g
    → left_of merging (tables_of g) g.done ≡ left_of merging tables done
list_left merging done tables g e = ap (λ (g : Going). left_of merging (tables_of g) g.done) (sym e)

module _ (env : Environment) (uses : LastUses) where
  gone : (same : Bool) (parent : ScopeId) (outside : Outside) (s : Met) (block : ReactiveScopeBlock)
      → StepAgrees (at outside) reactive.Scope (Ok (gone_if same parent block s))
      (dissolved_if same parent (at outside (record s { around = Some parent })) block)
  gone true parent outside s block = (refl, refl)
  gone false parent outside s block = (refl, refl)

  answers : (around : Option ScopeId) (outside : Outside) (s : Met) (block : ReactiveScopeBlock)
      → StepAgrees (at outside) reactive.Scope (Ok (left_scope env uses around block s))
      (scope_answer env uses around (at outside (record s { around = around })) block)
  answers None outside s block = (refl, refl)
  answers (Some parent) outside s block =
      gone (gives_way env uses s.scopes parent block.scope) parent outside s block

  leaves : (outside : Outside) (met s : Met) (block : ReactiveScopeBlock)
      → StepAgrees (at outside) reactive.Scope (Ok (left_scope env uses met.around block s))
      ((merge_steps env uses).transform_scope (at (outside_inside outside met) s) block)
  leaves outside met s block =
      subst (λ (around : Option ScopeId). StepAgrees (at outside) reactive.Scope
      (Ok (left_scope env uses met.around block s))
      (scope_answer env uses around (outside_scope (at (outside_inside outside met) s)) block))
      (sym (last_around-inside outside met.around))
      (subst (λ (merging : Merging). StepAgrees (at outside) reactive.Scope
      (Ok (left_scope env uses met.around block s)) (scope_answer env uses met.around merging block))
      (sym (outside_scope-inside outside met.around s)) (answers met.around outside s block))

  -- the steps follow the rules
  pub merging_follows : StatementsRefine (went_rules env uses) (merge_steps env uses) at outside_inside
  merging_follows = record {
    row = λ s row. refl;
    pruned_scope = λ s block. refl;
    enter_scope = λ outside s block. refl;
    terminal = λ outside s statement. (refl, refl);
    scope = leaves;
    block = λ outside s block. (refl, refl);
  }

  -- no rule refuses a statement
  never : FaultsOnly (went_rules env uses) (λ fault. ⊥)
  never = record {
    row = λ x s. tt;
    terminal = λ x s. tt;
    pruned_scope = λ x s. tt;
    scope = λ met x s. tt;
    block = λ xs s. tt;
  }

-- a call with the result of the walk rebuilds the body by the rules, and its only fault is out of memory
module _ {T : Type 0} (env_of : T → Environment) (uses_in : T → LastUses) (functions : T → List HirFunction) (t : T)
    (w : T × Merging) (start : Merging) (scopes : List ReactiveScope) (merged : Option (List MergedFacts))
    (begins : start ≡ at [] (none_met scopes merged))
    (before after : ReactiveBlock) (result : Result (Unit {0}) Fault)
    (walk : IsStep (rewrite_block (over_statements (λ it. merge_steps (env_of it) (uses_in it))) functions (t, start)
    before) result (w, after)) where
  rebuilds : RebuildsTo (went_rules (env_of t) (uses_in t)) (λ s. (t, at [] s)) before (none_met scopes merged) after w
      result
  rebuilds = statements_rebuilt (went_rules (env_of t) (uses_in t)) (λ it. merge_steps (env_of it) (uses_in it)) at
      outside_inside (over_statements_no_deeper (λ it. merge_steps (env_of it) (uses_in it))) functions t
      (merging_follows (env_of t) (uses_in t)) [] (none_met scopes merged) before after w result
      (subst (λ (start : Merging). IsStep (rewrite_block (over_statements (λ it. merge_steps (env_of it) (uses_in it)))
      functions (t, start) before) result (w, after)) begins walk)

  pub walk_rebuilds : OnOk result (AreRebuilt (env_of t) (uses_in t) merged before scopes after w.1.tables)
  walk_rebuilds = on_ok_weaker result
      (λ h. record {
        around = h.0.around;
        rebuilt = h.1 ∙ ap (λ (tables : Tables). Ok (
          record { around = h.0.around; scopes = tables.scopes; copies = tables.copies; log = tables.log },
          after,
        )) (sym (ap (λ (w : T × Merging). w.1.tables) h.2));
      }) rebuilds.0

  pub walk_refused : IfErr result (λ fault. fault ≡ NoMemory)
  walk_refused = IfErr-weaker result _ _ (λ fault. memory fault) rebuilds.1
    where
      memory : (fault : Fault) → (fault ≡ NoMemory)
          ⊎ (rebuilt_block (went_rules (env_of t) (uses_in t)) before (none_met scopes merged) ≡ Err fault)
          → fault ≡ NoMemory
      memory fault (inl e) = e
      memory fault (inr e) = absurd (subst (λ r. IfErr r (λ fault. ⊥)) e
          (rebuilt_faults (λ fault. ⊥) (went_rules (env_of t) (uses_in t)) (never (env_of t) (uses_in t)) before
          (none_met scopes merged)))
