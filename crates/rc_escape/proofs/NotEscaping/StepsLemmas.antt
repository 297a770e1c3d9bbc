-- The steps of the pass follow its rules, which never refuse.
use Rattle.std.proofs.Common.{◌≡◌, ◌⊎◌, ◌∙◌, Bool, true, false, List, Result, Ok, Err, ap, inl, inr, refl, subst, sym}
use Rattle.rc_hir.specs.Model.{Environment, Fault, HirFunction}
use Rattle.rc_hir.specs.declared.fault.Fault.TheVariants.{NoMemory}
use Rattle.rc_names.specs.Numbers.{DeclarationId}
use Rattle.rc_tree.proofs.RebuiltFaultsLemmas.{leaves_faults}
use Rattle.rc_tree.proofs.RefinesLemmas.{follows_body}
use Rattle.rc_tree.specs.Rebuilt.{Rules, rebuilt_block}
use Rattle.rc_tree.specs.inside.RuleFaults.{FaultsOnly}
use Rattle.rc_tree.specs.Rewrite.{in_place, rewrite_block}
use Rattle.rc_tree.specs.Step.{IsStep}
use Rattle.rc_tree.specs.inside.Refines.{RebuildsTo, Refines}
use Rattle.rc_tree.specs.Model.{ReactiveBlock, ReactiveScopeBlock}
use Rattle.rc_tree.specs.declared.statement.ReactiveStatement.TheVariants as reactive
use Rattle.rc_escape.specs.Outputs.{is_dissolved}
use Rattle.rc_escape.specs.NotEscaping.{in_place_of, not_escaping_rules}
use Rattle.rc_escape.specs.Met.{nothing_met}
use Rattle.rc_escape.specs.inside.NotEscapingSteps.{answer_if, enters_no_deeper, not_escaping_steps}
use Rattle.rc_escape.specs.declared.not_escaping.met.Met.{Met}

-- the replacement of a scope block is the one of its answer
replaced : (dissolved : Bool) (block : ReactiveScopeBlock)
    → in_place (answer_if dissolved block).0 (reactive.Scope (answer_if dissolved block).1)
    ≡ in_place_of dissolved block
replaced true block = refl
replaced false block = refl

module _ {T : Type 0} (env_of : T → Environment) (set_of : T → List DeclarationId) where
  -- the transform beside the state
  abbrev at : T → Unit {0} → Met → T × Met
  at t none met = (t, met)

  follows : (t : T) → Refines (not_escaping_rules (env_of t) (set_of t)) (not_escaping_steps env_of set_of) (at t)
      (λ none met. tt)
  follows t = record {
    visit_id = refl;
    visit_place = refl;
    enter_instruction = refl;
    enter_value = refl;
    enter_terminal = refl;
    leave_terminal = refl;
    enter_pruned_scope = refl;
    leave_pruned_scope = refl;
    enter_block = refl;
    enter_scope = λ none met block. refl;
    leave_scope = refl;
    row = λ none met row. (refl, refl);
    terminal = λ none met statement. (refl, refl);
    pruned_scope = λ none met block. (refl, refl);
    scope = λ none around met block. (refl, replaced (is_dissolved (env_of t) (set_of t) block.scope) block);
    block = λ none met block. (refl, refl);
  }

  -- no rule refuses a statement
  never : (t : T) → FaultsOnly (not_escaping_rules (env_of t) (set_of t)) (λ fault. ⊥)
  never t = record {
    row = λ x s. tt;
    terminal = λ x s. tt;
    pruned_scope = λ x s. tt;
    scope = λ met x s. tt;
    block = λ xs s. tt;
  }

  -- a call that gives what the walk gives leaves the rebuilt body and what was met, or runs out of memory
  module _ (functions : T → List HirFunction) (t : T) (w : T × Met) (start : Met) (before after : ReactiveBlock)
      (empty : start ≡ nothing_met) where
    abbrev rules : Rules Met
    rules = not_escaping_rules (env_of t) (set_of t)

    abbrev Gives : Result (Unit {0}) Fault → Type 0
    Gives result =
        IsStep (rewrite_block (not_escaping_steps env_of set_of) functions (t, start) before) result (w, after)

    gives : (result : Result (Unit {0}) Fault) → Gives result
        → RebuildsTo rules (at t tt) before nothing_met after w result
    gives result gave = subst (λ met. RebuildsTo rules (at t tt) before met after w result) empty
        (follows_body rules (not_escaping_steps env_of set_of) functions (at t) (λ none met. tt) (follows t)
        (enters_no_deeper env_of set_of) tt start before after w result gave)

    pub rebuilt_here : (done : Unit {0}) → Gives (Ok done)
        → rebuilt_block rules before nothing_met ≡ Ok (w.1, after)
    rebuilt_here done gave =
        let it = (gives (Ok done) gave).0 in
        it.1 ∙ ap (λ world. Ok (world.1, after)) (sym it.2)

    pub only_memory : (fault : Fault) → Gives (Err fault) → fault ≡ NoMemory
    only_memory fault gave = by (leaves_faults (λ fault. ⊥) rules (never t) (at t tt) before after nothing_met w
        (Err fault) (gives (Err fault) gave))
      where
        by : (fault ≡ NoMemory) ⊎ ⊥ → fault ≡ NoMemory
        by (inl memory) = memory
        by (inr bad) = absurd bad
