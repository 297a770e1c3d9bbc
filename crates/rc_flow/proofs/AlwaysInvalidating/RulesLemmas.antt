-- The pass that drops scope blocks follows its rules, which keep the numbers of a tree and the tree without its scopes.
use Rattle.std.proofs.Common.{◌≡◌, ◌∙◌, ◌↔◌, ◌⊎◌, ◌-◌, Bool, true, false, List, [], ◌∷◌, ◌++◌, Option, None, Some}
use Rattle.std.proofs.Common.{Result, Ok, Err, IsNone, IfSome, IfNone, IfErr, OnOk, inl, inr, refl, sym, ap, subst}
use Rattle.std.proofs.Common.{length, drop, reverse, take, unwrap_or, arith}
use Rattle.std.proofs.lemmas.List.{length-append, reverse-append}
use Rattle.std.proofs.lemmas.Result.{IfErr-weaker}
use Rattle.std.proofs.Math.Seq.{take-append_seam}
use Rattle.std.specs.List.{last_or}
use Rattle.rc_hir.specs.Model.{Fault, HirFunction}
use Rattle.rc_hir.specs.declared.fault.Fault.TheVariants.{NoMemory}
use Rattle.rc_runs.proofs.EraseLemmas.{erase_kept, erase_measure, pruned_like_kept}
use Rattle.rc_runs.specs.Erase.{erased}
use Rattle.rc_tree.proofs.Measures.{Measure, one}
use Rattle.rc_tree.proofs.RebuiltFaultsLemmas.{rebuilt_faults}
use Rattle.rc_tree.proofs.RebuiltKeeps.{RulesKeep}
use Rattle.rc_tree.proofs.StatementsRefineLemmas.{statements_rebuilt}
use Rattle.rc_tree.proofs.TreeNamesLemmas.{names_kept, names_measure, pruned_names}
use Rattle.rc_tree.specs.Pruned.{as_pruned}
use Rattle.rc_tree.specs.Rebuilt.{rebuilt_block}
use Rattle.rc_tree.specs.inside.RuleFaults.{FaultsOnly}
use Rattle.rc_tree.specs.Rewrite.{in_place, rewrite_block}
use Rattle.rc_tree.specs.StatementSteps.{over_statements}
use Rattle.rc_tree.proofs.StatementsNoDeeper.{over_statements_no_deeper}
use Rattle.rc_tree.specs.Step.{IsStep}
use Rattle.rc_tree.specs.TreeNames.{names_in}
use Rattle.rc_tree.specs.inside.Refines.{RebuildsTo}
use Rattle.rc_tree.specs.inside.StatementsRefine.{StatementsRefine}
use Rattle.rc_tree.specs.Model.{ReactiveBlock, ReactiveFunction, ReactiveScopeBlock}
use Rattle.rc_tree.specs.declared.statement.ReactiveStatement.TheVariants as reactive
use Rattle.rc_flow.specs.AlwaysInvalidating.{dropping_rules, first_answer, IsRebuiltBy, pruned_if}
use Rattle.rc_flow.specs.inside.DroppingSteps.{answer_if, dropping_steps, last_answer, without_last}

last_or-append : (first : Option Bool) (answers : List Bool) (answer : Bool)
    → last_or first (answers ++ answer ∷ []) ≡ Some answer
last_or-append first [] answer = refl
last_or-append first (other ∷ answers) answer = last_or-append (Some other) answers answer

take-before_last : (answers : List Bool) (answer : Bool)
    → take (length (answers ++ answer ∷ []) - 1) (answers ++ answer ∷ []) ≡ answers
take-before_last answers answer =
    ap (λ n. take n (answers ++ answer ∷ [])) (omega (arith, length-append answers (answer ∷ [])))
    ∙ take-append_seam answers (answer ∷ [])

-- popping takes the last answer off, and leaves the others
module _ (old new : List Bool) (last : Option Bool) (none : IsNone last ↔ (old ≡ []))
    (some : IfSome last (λ answer. old ≡ new ++ answer ∷ [])) (left : IfNone last (new ≡ [])) where
  pub popped_answer : unwrap_or last false ≡ last_answer old
  popped_answer = by last none some
    where
      by : (last : Option Bool) → (IsNone last ↔ (old ≡ [])) → IfSome last (λ answer. old ≡ new ++ answer ∷ [])
          → unwrap_or last false ≡ last_answer old
      by None none some = rw (none.0 refl) refl
      by (Some answer) none some = rw (some, last_or-append None new answer) refl

  pub popped_rest : new ≡ without_last old
  popped_rest = by last none some left
    where
      by : (last : Option Bool) → (IsNone last ↔ (old ≡ [])) → IfSome last (λ answer. old ≡ new ++ answer ∷ [])
          → IfNone last (new ≡ []) → new ≡ without_last old
      by None none some left = rw (none.0 refl) left
      by (Some answer) none some left = sym (ap without_last some ∙ take-before_last new answer)

-- answers with the next one last
next_last : (answer : Bool) (answers : List Bool) → reverse (answer ∷ answers) ≡ reverse answers ++ answer ∷ []
next_last answer answers = reverse-append (answer ∷ []) answers

last_is_next : (answers : List Bool) → last_answer (reverse answers) ≡ first_answer answers
last_is_next [] = refl
last_is_next (answer ∷ answers) = ap last_answer (next_last answer answers)
    ∙ ap (λ o. unwrap_or o false) (last_or-append None (reverse answers) answer)

rest_is_left : (answers : List Bool) → without_last (reverse answers) ≡ reverse (drop 1 answers)
rest_is_left [] = refl
rest_is_left (answer ∷ answers) =
    ap without_last (next_last answer answers) ∙ take-before_last (reverse answers) answer

-- the replacement of a scope block is the one of its answer
replaced : (dropped : Bool) (block : ReactiveScopeBlock)
    → in_place (answer_if dropped block).0 (reactive.Scope (answer_if dropped block).1) ≡ pruned_if dropped block ∷ []
replaced true block = refl
replaced false block = refl

abbrev at : Unit {0} → List Bool → List Bool
at none answers = reverse answers

-- the steps follow the rules
follows : StatementsRefine dropping_rules dropping_steps at (λ none answers. tt)
follows = record {
  row = λ answers row. refl;
  pruned_scope = λ answers block. refl;
  enter_scope = λ none answers block. refl;
  terminal = λ none answers statement. (refl, refl);
  scope = λ none met answers block. (
    rest_is_left answers,
    replaced (last_answer (reverse answers)) block
        ∙ ap (λ dropped. pruned_if dropped block ∷ []) (last_is_next answers),
  );
  block = λ none answers block. (refl, refl);
}

-- no rule refuses a statement
never : FaultsOnly dropping_rules (λ fault. ⊥)
never = record {
  row = λ x s. tt;
  terminal = λ x s. tt;
  pruned_scope = λ x s. tt;
  scope = λ met x s. tt;
  block = λ xs s. tt;
}

-- the rules keep a measure that a scope block shares with its pruned one
module _ {L C P : Type 0} (m : Measure L C P)
    (same : (x : ReactiveScopeBlock) → one m (reactive.PrunedScope (as_pruned x)) ≡ one m (reactive.Scope x)) where
  same_if : (dropped : Bool) (x : ReactiveScopeBlock) → one m (pruned_if dropped x) ≡ one m (reactive.Scope x)
  same_if true x = same x
  same_if false x = refl

  rules_keep : RulesKeep m dropping_rules
  rules_keep = record {
    row = λ x s. refl;
    terminal = λ x s. refl;
    pruned_scope = λ x s. refl;
    scope = λ met x s. same_if (first_answer s) x;
    block = λ xs s. refl;
  }

-- the numbers of a tree stay, and so does what is left of a function without its scopes
pub rebuilt_keeps_names : (answers : List Bool) (before after : ReactiveBlock) → IsRebuiltBy answers before after
    → names_in after ≡ names_in before
rebuilt_keeps_names answers before after is =
    names_kept dropping_rules (rules_keep names_measure pruned_names) before after answers is.left is.rebuilt

pub rebuilt_keeps_erased : (answers : List Bool) (old new : ReactiveFunction) → new ≡ record old { body = new.body }
    → IsRebuiltBy answers old.body new.body → erased new ≡ erased old
rebuilt_keeps_erased answers old new header is =
    erase_kept dropping_rules (rules_keep erase_measure (λ x. pruned_like_kept (as_pruned x) x refl)) old new answers
    is.left header is.rebuilt

-- a call with the result of the walk leaves the rebuilt body, and its only fault is out of memory
module _ {T : Type 0} (functions : T → List HirFunction) (t : T) (w : T × List Bool) (answers : List Bool)
    (before after : ReactiveBlock) (result : Result (Unit {0}) Fault)
    (walk : IsStep (rewrite_block (over_statements (λ it. dropping_steps)) functions (t, reverse answers) before) result
    (w, after)) where
  rebuilds : RebuildsTo dropping_rules (λ s. (t, reverse s)) before answers after w result
  rebuilds = statements_rebuilt dropping_rules (λ it. dropping_steps) at (λ none answers. tt)
      (over_statements_no_deeper (λ it. dropping_steps)) functions t follows tt answers before after w result walk

  pub left_rebuilt : OnOk result (IsRebuiltBy answers before after)
  left_rebuilt = by result rebuilds.0
    where
      by : (result : Result (Unit {0}) Fault)
          → OnOk result ((s : List Bool) × (rebuilt_block dropping_rules before answers ≡ Ok (s, after))
          × (w ≡ (t, reverse s)))
          → OnOk result (IsRebuiltBy answers before after)
      by (Ok done) h = record { left = h.0; rebuilt = h.1 }
      by (Err fault) h = tt

  pub only_memory : IfErr result (λ fault. fault ≡ NoMemory)
  only_memory = IfErr-weaker result _ _ (λ fault. memory fault) rebuilds.1
    where
      memory : (fault : Fault) → (fault ≡ NoMemory) ⊎ (rebuilt_block dropping_rules before answers ≡ Err fault)
          → fault ≡ NoMemory
      memory fault (inl e) = e
      memory fault (inr e) = absurd (subst (λ r. IfErr r (λ fault. ⊥)) e
          (rebuilt_faults (λ fault. ⊥) dropping_rules never before answers))
