-- The pass on unused scopes follows its rules: flags are set aside and found again, an answer is the judgement, and
-- what was decided is listed.
use Rattle.std.proofs.Common.{◌≡◌, ◌∙◌, ◌↔◌, ◌⊎◌, ◌-◌, Bool, true, false, List, [], ◌∷◌, ◌++◌, Option, None, Some}
use Rattle.std.proofs.Common.{Result, Ok, IsTrue, IsNone, IfSome, IfNone, IfErr, OnOk, not, refl, sym, ap, subst}
use Rattle.std.proofs.Common.{length, slice_get, take, unwrap_or, arith}
use Rattle.std.proofs.lemmas.List.{length-append}
use Rattle.std.proofs.Math.Seq.{take-append_seam}
use Rattle.std.proofs.lemmas.Result.{on_ok_weaker}
use Rattle.std.specs.List.{last_or}
use Rattle.rc_checks.specs.UnusedScopes.{LosesUnusedScopes, IsFirstScopeOutside, Progress, has_entry, judged, judged_by}
use Rattle.rc_checks.specs.UnusedScopes.{is_used, nothing_met, unused_scope_rules}
use Rattle.rc_checks.specs.inside.UnusedScopesSteps.{answered, at, scope_answer, last_flag, outside_scope}
use Rattle.rc_checks.specs.inside.UnusedScopesSteps.{unused_scope_steps, without_last}
use Rattle.rc_checks.specs.declared.unused_scopes.Judging.{Judging}
use Rattle.rc_hir.specs.Model.{Environment, Fault, HirFunction, ReactiveScope}
use Rattle.rc_hir.specs.declared.fault.Fault.TheVariants.{NoMemory}
use Rattle.rc_tree.proofs.StatementsRefineLemmas.{statements_rebuilt}
use Rattle.rc_tree.specs.inside.Refines.{StepAgrees, RebuildsTo}
use Rattle.rc_tree.specs.Step.{IsStep}
use Rattle.rc_tree.specs.Rewrite.{rewrite_block}
use Rattle.rc_tree.specs.RewriteSteps.{RewriteSteps}
use Rattle.rc_tree.specs.StatementSteps.{over_statements}
use Rattle.rc_tree.specs.inside.StatementsRefine.{StatementsRefine}
use Rattle.rc_tree.proofs.StatementsNoDeeper.{over_statements_no_deeper}
use Rattle.rc_tree.specs.Model.{ReactiveScopeBlock, ReactiveBlock}
use Rattle.rc_tree.specs.declared.fate.Fate.TheVariants.{Unused}
use Rattle.rc_tree.specs.declared.fate.ScopeFate.{ScopeFate}
use Rattle.rc_tree.specs.declared.statement.ReactiveStatement.TheVariants as reactive

last_or-append : (first : Option Bool) (flags : List Bool) (flag : Bool)
    → last_or first (flags ++ flag ∷ []) ≡ Some flag
last_or-append first [] flag = refl
last_or-append first (other ∷ flags) flag = last_or-append (Some other) flags flag

take-before_last : (flags : List Bool) (flag : Bool) → take (length (flags ++ flag ∷ []) - 1) (flags ++ flag ∷ [])
    ≡ flags
take-before_last flags flag =
    ap (λ n. take n (flags ++ flag ∷ [])) (omega (arith, length-append flags (flag ∷ [])))
    ∙ take-append_seam flags (flag ∷ [])

-- popping takes the last flag off, and leaves the others
module _ (old new : List Bool) (last : Option Bool) (none : IsNone last ↔ (old ≡ []))
    (some : IfSome last (λ flag. old ≡ new ++ flag ∷ [])) (left : IfNone last (new ≡ [])) where
  pub popped_flag : unwrap_or last false ≡ last_flag old
  popped_flag = by last none some
    where
      by : (last : Option Bool) → (IsNone last ↔ (old ≡ [])) → IfSome last (λ flag. old ≡ new ++ flag ∷ [])
          → unwrap_or last false ≡ last_flag old
      by None none some = rw (none.0 refl) refl
      by (Some flag) none some = rw (some, last_or-append None new flag) refl

  pub popped_rest : new ≡ without_last old
  popped_rest = by last none some left
    where
      by : (last : Option Bool) → (IsNone last ↔ (old ≡ [])) → IfSome last (λ flag. old ≡ new ++ flag ∷ [])
          → IfNone last (new ≡ []) → new ≡ without_last old
      by None none some left = rw (none.0 refl) left
      by (Some flag) none some left = sym (ap without_last some ∙ take-before_last new flag)

-- the list has an entry unless it is empty
pub has_entry_unless : {X : Type 0} (xs : List X) (empty : Bool) → (IsTrue empty ↔ (xs ≡ [])) → not empty ≡ has_entry xs
has_entry_unless [] empty h = ap not (h.1 refl)
has_entry_unless (x ∷ xs) true h = let e : x ∷ xs ≡ [] = h.0 refl in let bad : ⊥ = cc in absurd bad
has_entry_unless (x ∷ xs) false h = refl

-- the flags around the inside of a scope block
abbrev pub around_inside : List Bool → Progress → List Bool
around_inside around s = around ++ s.returns ∷ []

-- after a scope block the flags are those at its beginning
outside_scope-around : (around : List Bool) (met inside : Bool) (log : List ScopeFate)
    → outside_scope (record { met = inside; around = around ++ met ∷ []; log = log })
    ≡ record { met = met; around = around; log = log }
outside_scope-around around met inside log = rw (last_or-append None around met, take-before_last around met) refl

answers : (used : Bool) (around : List Bool) (met s : Progress) (block : ReactiveScopeBlock)
    → StepAgrees (at around) reactive.Scope (Ok (judged_by used met block s))
    (Ok (answered used (at (around_inside around met) s) block))
answers true around met s block = (outside_scope-around around met.returns s.returns s.log, refl)
answers false around met s block = (
  ap (λ (it : Judging). record it { log = it.log ++ record { scope = block.scope; fate = Unused } ∷ [] })
      (outside_scope-around around met.returns s.returns s.log),
  refl,
)

judges : (around : List Bool) (met s : Progress) (block : ReactiveScopeBlock) (found : Option ReactiveScope)
    → StepAgrees (at around) reactive.Scope (judged found met block s)
    (scope_answer found (at (around_inside around met) s) block)
judges around met s block None = refl
judges around met s block (Some scope) = answers (is_used scope block.scope s.returns) around met s block

-- the steps follow the rules
scopes_follow : (env : Environment) → StatementsRefine (unused_scope_rules env) (unused_scope_steps env) at
    around_inside
scopes_follow env = record {
  row = λ s row. refl;
  pruned_scope = λ s block. refl;
  enter_scope = λ around s block. refl;
  terminal = λ around s statement. (refl, refl);
  scope = λ around met s block. judges around met s block (slice_get env.scopes block.scope.0);
  block = λ around s block. (refl, refl);
}

-- a call that gives what the walk gives leaves the body without its unused scopes and the list of them, runs out of
-- memory, or ends with the rules' fault
module _ {T : Type 0} (env_of : T → Environment) (functions : T → List HirFunction) (t : T) (w : T × Judging)
    (start : Judging) (begins : start ≡ at [] nothing_met) (before after : ReactiveBlock)
    (result : Result (Unit {0}) Fault) where
  abbrev steps : RewriteSteps (T × Judging)
  steps = over_statements (λ it. unused_scope_steps (env_of it))

  abbrev Gave : Type 0
  Gave = IsStep (rewrite_block steps functions (t, start) before) result (w, after)

  left : Gave → RebuildsTo (unused_scope_rules (env_of t)) (λ s. (t, at [] s)) before nothing_met after w result
  left gave = statements_rebuilt (unused_scope_rules (env_of t)) (λ it. unused_scope_steps (env_of it)) at around_inside
      (over_statements_no_deeper (λ it. unused_scope_steps (env_of it))) functions t
      (scopes_follow (env_of t)) [] nothing_met before after w result
      (subst (λ s. IsStep (rewrite_block steps functions (t, s) before) result (w, after)) begins gave)

  pub left_without_unused : Gave → OnOk result (LosesUnusedScopes (env_of t) before after w.1.log)
  left_without_unused gave = on_ok_weaker result
      (λ h. record {
        returns = h.0.returns;
        rebuilt = h.1 ∙ ap (λ log. Ok (record { returns = h.0.returns; log = log }, after)) (sym (ap (λ w. w.1.log) h.2));
      }) (left gave).0

  pub left_first_outside : Gave → IfErr result (λ fault. (fault ≡ NoMemory) ⊎ IsFirstScopeOutside (env_of t) before fault)
  left_first_outside gave = (left gave).1
