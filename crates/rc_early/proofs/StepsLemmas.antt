-- The pass on early returns follows its rules: where each scope block around is, is set aside and found again.
use Rattle.std.proofs.Common.{◌≡◌, ◌∙◌, ◌↔◌, ◌⊎◌, Bool, true, false, List, [], ◌∷◌, ◌++◌, Option, None, Some}
use Rattle.std.proofs.Common.{Result, Ok, Err, IsNone, IfSome, IfNone, IfErr, OnOk, refl, sym, ap, subst, length}
use Rattle.std.proofs.Common.{slice_get, take, unwrap_or, arith, ◌+◌, ◌||◌}
use Rattle.std.proofs.lemmas.List.{length-append}
use Rattle.std.proofs.lemmas.List.Folds.{list_any-append}
use Rattle.std.proofs.Math.Bool.{or_assoc, or-false}
use Rattle.std.proofs.Math.Seq.{take-append_seam}
use Rattle.std.proofs.lemmas.Result.{on_ok_weaker}
use Rattle.std.specs.List.{last_or}
use Rattle.std.specs.Prelude.{if◌then◌else◌}
use Rattle.indexmap.specs.IndexSet.{insert_key}
use Rattle.rc_early.specs.EarlyReturned.{EndsAtFault, MakesEarlyReturns, Progress, early_return_rules, ended}
use Rattle.rc_early.specs.EarlyReturned.{had_early_return, is_made, nothing_met, return_within, scope_at, terminal_at}
use Rattle.rc_early.specs.Entries.{has_room, next_entry}
use Rattle.rc_early.specs.Statements.{stored_return}
use Rattle.rc_early.specs.inside.EarlyReturnSteps.{at, beside, early_return_steps, end_step, ended_entry, entry_at}
use Rattle.rc_early.specs.inside.EarlyReturnSteps.{inside_scope, last_where, left_at, outside_scope, return_step}
use Rattle.rc_early.specs.inside.EarlyReturnSteps.{scope_step, terminal_step, with_scopes, without_last}
use Rattle.rc_early.specs.declared.early_return.EarlyReturn.{EarlyReturn}
use Rattle.rc_early.specs.declared.early_return.Where.{Where}
use Rattle.rc_early.specs.declared.early_return.Where.TheVariants.{Outside, Within, PassedOver}
use Rattle.rc_early.specs.declared.replacing.Replacing.{Replacing}
use Rattle.rc_hir.specs.Model.{Environment, Fault, HirFunction, Place, ReactiveScope, ReactiveScopeEarlyReturn}
use Rattle.rc_hir.specs.declared.fault.Fault.TheVariants.{NoIds, NoMemory}
use Rattle.rc_names.proofs.NumbersLemmas.{ids_equivalence, same_id-eq}
use Rattle.rc_names.specs.Numbers.{ScopeId, is_among, same_id}
use Rattle.rc_tree.proofs.StatementsRefineLemmas.{statements_rebuilt}
use Rattle.rc_tree.proofs.StatementsNoDeeper.{over_statements_no_deeper}
use Rattle.rc_tree.specs.inside.Refines.{StepAgrees, RebuildsTo}
use Rattle.rc_tree.specs.inside.StatementsRefine.{StatementsRefine}
use Rattle.rc_tree.specs.Rewrite.{rewrite_block}
use Rattle.rc_tree.specs.RewriteSteps.{RewriteSteps}
use Rattle.rc_tree.specs.StatementSteps.{over_statements}
use Rattle.rc_tree.specs.Step.{IsStep, bind}
use Rattle.rc_tree.specs.Unrolled.{UnrolledTerminal}
use Rattle.rc_tree.specs.Model.{ReactiveBlock, ReactiveScopeBlock, ReactiveStatement, ReactiveTerminalStatement}
use Rattle.rc_tree.specs.declared.hooks.Transformed.TheVariants.{Keep, ReplaceMany}
use Rattle.rc_tree.specs.declared.statement.ReactiveStatement.TheOpen as layer
use Rattle.rc_tree.specs.declared.statement.ReactiveStatement.TheVariants as reactive
use Rattle.rc_tree.specs.declared.terminal.ReactiveTerminal.{out-ReactiveTerminal}

last_or-append : (first : Option Where) (around : List Where) (w : Where) → last_or first (around ++ w ∷ []) ≡ Some w
last_or-append first [] w = refl
last_or-append first (other ∷ around) w = last_or-append (Some other) around w

last_where-append : (around : List Where) (w : Where) → last_where (around ++ w ∷ []) ≡ w
last_where-append around w = ap (λ last. unwrap_or last Outside) (last_or-append None around w)

without_last-append : (around : List Where) (w : Where) → without_last (around ++ w ∷ []) ≡ around
without_last-append around w =
    ap (λ n. take n (around ++ w ∷ [])) (omega (arith, length-append around (w ∷ [])))
    ∙ take-append_seam around (w ∷ [])

-- popping takes the last place off, and leaves the others
module _ (old new : List Where) (last : Option Where) (none : IsNone last ↔ (old ≡ []))
    (some : IfSome last (λ w. old ≡ new ++ w ∷ [])) (left : IfNone last (new ≡ [])) where
  pub popped_where : unwrap_or last Outside ≡ last_where old
  popped_where = by last none some
    where
      by : (last : Option Where) → (IsNone last ↔ (old ≡ [])) → IfSome last (λ w. old ≡ new ++ w ∷ [])
          → unwrap_or last Outside ≡ last_where old
      by None none some = rw (none.0 refl) refl
      by (Some w) none some = sym (ap last_where some ∙ last_where-append new w)

  pub popped_others : new ≡ without_last old
  popped_others = by last none some left
    where
      by : (last : Option Where) → (IsNone last ↔ (old ≡ [])) → IfSome last (λ w. old ≡ new ++ w ∷ [])
          → IfNone last (new ≡ []) → new ≡ without_last old
      by None none some left = rw (none.0 refl) left
      by (Some w) none some left = sym (ap without_last some ∙ without_last-append new w)

-- a scope is among some and one more exactly where it is among them or is that one
among_more : (scopes : List ScopeId) (more scope : ScopeId)
    → is_among (insert_key same_id scopes more) scope ≡ (is_among scopes scope || same_id more scope)
among_more scopes more scope = by (is_among scopes more) refl
  where
    again : is_among scopes more ≡ true → (same : Bool) → same_id more scope ≡ same
        → is_among scopes scope ≡ (is_among scopes scope || same)
    again there true e =
        let known = subst (λ n. is_among scopes n ≡ true) (same_id-eq more scope e) there in
        known ∙ sym (ap (λ b. b || true) known)
    again there false e = sym (or-false (is_among scopes scope))

    by : (there : Bool) → is_among scopes more ≡ there
        → is_among (if there then scopes else scopes ++ more ∷ []) scope
        ≡ (is_among scopes scope || same_id more scope)
    by true e = again e (same_id more scope) refl
    by false e = list_any-append (same_id scope) scopes (more ∷ [])
        ∙ ap (λ b. is_among scopes scope || b) (or-false (same_id scope more) ∙ ids_equivalence.symm scope more)

-- a scope is among those of early returns exactly where one was made for it
among_made : (made : List EarlyReturn) (scopes : List ScopeId) (scope : ScopeId)
    → is_among (with_scopes scopes made) scope ≡ (is_among scopes scope || is_made made scope)
among_made [] scopes scope = sym (or-false (is_among scopes scope))
among_made (early ∷ made) scopes scope =
    among_made made (insert_key same_id scopes early.scope) scope
    ∙ ap (λ b. b || is_made made scope) (among_more scopes early.scope scope)
    ∙ or_assoc (is_among scopes scope) (same_id early.scope scope) (is_made made scope)

-- the scopes with that of one more early return
with_scopes-append : (made : List EarlyReturn) (scopes : List ScopeId) (early : EarlyReturn)
    → with_scopes scopes (made ++ early ∷ []) ≡ insert_key same_id (with_scopes scopes made) early.scope
with_scopes-append [] scopes early = refl
with_scopes-append (other ∷ made) scopes early =
    with_scopes-append made (insert_key same_id scopes other.scope) early

-- the places around the inside of a scope block
abbrev pub around_inside : List Where → Progress → List Where
around_inside around s = around ++ s.at ∷ []

module _ (env : Environment) (around : List Where) where
  -- a `Return` in a scope block
  return_agrees : (met : Option ReactiveScopeEarlyReturn) (s : Progress) (place : Place) (x : ReactiveTerminalStatement)
      → StepAgrees (at around) reactive.Terminal (return_within env met place s)
      (beside x (bind (return_step env met place (at around s)) (λ r. Ok (ReplaceMany r.0, r.1))))
  return_agrees (Some entry) s place x = (refl, refl)
  return_agrees None s place x = by (next_entry env (length s.made) place.span) (has_room env (length s.made + 1))
    where
      by : (entry : ReactiveScopeEarlyReturn) (room : Bool) → StepAgrees (at around) reactive.Terminal
          (if room then Ok (record s { met = Some entry }, stored_return entry place) else Err NoIds)
          (beside x (bind {A = List ReactiveStatement × Replacing} (if room
          then Ok (stored_return entry place, record (at around s) { met = Some entry })
          else Err NoIds) (λ r. Ok (ReplaceMany r.0, r.1))))
      by entry true = (refl, refl)
      by entry false = refl

  terminal_agrees : (w : Where) (terminal : UnrolledTerminal) (s : Progress) (x : ReactiveTerminalStatement)
      → StepAgrees (at around) reactive.Terminal (terminal_at env w terminal x s)
      (beside x (terminal_step env w terminal (at around s)))
  terminal_agrees Outside terminal s x = (refl, refl)
  terminal_agrees PassedOver terminal s x = (refl, refl)
  terminal_agrees Within (layer.Return place id) s x = return_agrees s.met s place x
  terminal_agrees Within (layer.Break target kind id) s x = (refl, refl)
  terminal_agrees Within (layer.Continue target kind id) s x = (refl, refl)
  terminal_agrees Within (layer.Throw place id) s x = (refl, refl)
  terminal_agrees Within (layer.Switch test cases id) s x = (refl, refl)
  terminal_agrees Within (layer.DoWhile body test id) s x = (refl, refl)
  terminal_agrees Within (layer.While test body id) s x = (refl, refl)
  terminal_agrees Within (layer.For init test update body id) s x = (refl, refl)
  terminal_agrees Within (layer.ForOf init test body span id) s x = (refl, refl)
  terminal_agrees Within (layer.ForIn init body span id) s x = (refl, refl)
  terminal_agrees Within (layer.If test consequent alternate id) s x = (refl, refl)
  terminal_agrees Within (layer.Label body id) s x = (refl, refl)
  terminal_agrees Within (layer.Try body binding handler id) s x = (refl, refl)

  -- the state after a scope block that was there
  abbrev left : Where → Progress → Replacing
  left w s = record { at = w; met = left_at w s.met; made = s.made; scopes = with_scopes [] s.made; around = around }

  end_agrees : (found : Option ReactiveScope) (entry : ReactiveScopeEarlyReturn) (s : Progress)
      (block : ReactiveScopeBlock)
      → StepAgrees (at around) reactive.Scope (ended found entry block s)
      (bind (end_step found entry (left Outside s) block) (λ r. Ok (Keep, r.1)))
  end_agrees None entry s block = refl
  end_agrees (Some scope) entry s block =
      let early : EarlyReturn = record { scope = block.scope; entry = entry } in (
        (λ i. record (left Outside s) {
          made = s.made ++ early ∷ [];
          scopes = sym (with_scopes-append s.made [] early) i;
        }),
        refl,
      )

  left_agrees : (w : Where) (met : Option ReactiveScopeEarlyReturn) (s : Progress) (block : ReactiveScopeBlock)
      → s.met ≡ met → StepAgrees (at around) reactive.Scope (scope_at env w met block s)
      (scope_step env (entry_at w met) (left w s) block)
  left_agrees Outside None s block is = ((λ i. record (left Outside s) { met = sym is i }), refl)
  left_agrees Outside (Some entry) s block is = end_agrees (slice_get env.scopes block.scope.0) entry s block
  left_agrees Within met s block is = (refl, refl)
  left_agrees PassedOver met s block is = (refl, refl)

  scope_agrees : (met s : Progress) (block : ReactiveScopeBlock)
      → StepAgrees (at around) reactive.Scope (scope_at env met.at s.met block s)
      (scope_step env (ended_entry (at (around_inside around met) s)) (outside_scope (at (around_inside around met) s))
      block)
  scope_agrees met s block = subst (λ step. StepAgrees (at around) reactive.Scope (scope_at env met.at s.met block s)
      step)
      (sym same) (left_agrees met.at s.met s block refl)
    where
      same : scope_step env (ended_entry (at (around_inside around met) s))
          (outside_scope (at (around_inside around met) s)) block
          ≡ scope_step env (entry_at met.at s.met) (left met.at s) block
      same = λ i. scope_step env (entry_at (last_where-append around met.at i) s.met)
          (record {
            at = last_where-append around met.at i;
            met = left_at (last_where-append around met.at i) s.met;
            made = s.made;
            scopes = with_scopes [] s.made;
            around = without_last-append around met.at i;
          }) block

-- the steps follow the rules
steps_follow : (env : Environment) → StatementsRefine (early_return_rules env) (early_return_steps env) at around_inside
steps_follow env = record {
  row = λ s row. refl;
  pruned_scope = λ s block. refl;
  enter_scope = λ around s block. ap
      (λ made. Ok (tt, inside_scope (had_early_return env block.scope || made) (at around s)))
      (among_made s.made [] block.scope);
  terminal = λ around s x. terminal_agrees env around s.at (out-ReactiveTerminal x.terminal) s x;
  scope = λ around met s block. scope_agrees env around met s block;
  block = λ around s block. (refl, refl);
}

-- a call that gives what the walk gives leaves the body with its early returns and the list of them, runs out of
-- memory, or ends with the rules' fault
module _ {T : Type 0} (env_of : T → Environment) (functions : T → List HirFunction) (t : T) (w : T × Replacing)
    (start : Replacing) (begins : start ≡ at [] nothing_met) (before after : ReactiveBlock)
    (result : Result (Unit {0}) Fault) where
  abbrev steps : RewriteSteps (T × Replacing)
  steps = over_statements (λ it. early_return_steps (env_of it))

  abbrev Gave : Type 0
  Gave = IsStep (rewrite_block steps functions (t, start) before) result (w, after)

  rebuilt : Gave → RebuildsTo (early_return_rules (env_of t)) (λ s. (t, at [] s)) before nothing_met after w result
  rebuilt gave = statements_rebuilt (early_return_rules (env_of t)) (λ it. early_return_steps (env_of it))
      at around_inside
      (over_statements_no_deeper (λ it. early_return_steps (env_of it))) functions t
      (steps_follow (env_of t)) [] nothing_met before after w result
      (subst (λ s. IsStep (rewrite_block steps functions (t, s) before) result (w, after)) begins gave)

  pub leaves_early_returns : Gave → OnOk result (MakesEarlyReturns (env_of t) before after w.1.made)
  leaves_early_returns gave = on_ok_weaker result
      (λ h. record {
        at = h.0.at;
        met = h.0.met;
        rebuilt = h.1 ∙ ap (λ made. Ok (record { at = h.0.at; met = h.0.met; made = made }, after))
            (sym (ap (λ w. w.1.made) h.2));
      }) (rebuilt gave).0

  pub leaves_fault : Gave → IfErr result (λ fault. (fault ≡ NoMemory) ⊎ EndsAtFault (env_of t) before fault)
  leaves_fault gave = (rebuilt gave).1
