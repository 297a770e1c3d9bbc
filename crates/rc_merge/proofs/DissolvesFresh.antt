-- A scope that gave way recomputes only where the scope around it does: the two had the same inputs, and merging
-- changes no dependencies.
use Rattle.std.proofs.Common.{◌≡◌, List, [], ◌∷◌, None, true, map, refl, sym, ap}
use Rattle.std.proofs.Common.{subst}
use Rattle.rc_hir.specs.Model.{Environment}
use Rattle.rc_names.specs.Numbers.{ScopeId}
use Rattle.rc_merge.proofs.DependenciesStay.{HasDependencies, list_dependencies}
use Rattle.rc_merge.proofs.Elements.{In, contains_in, in_contains}
use Rattle.rc_merge.proofs.LogLemmas.{EachEntry, each_both, each_none, each_one, joined_each}
use Rattle.rc_merge.proofs.MergingFacts.{IsOfParts, IsOfStates, merging_facts}
use Rattle.rc_merge.proofs.SameLemmas.{same_covers}
use Rattle.rc_merge.specs.Freshness.{DissolvesFresh, RecomputesWith}
use Rattle.rc_merge.specs.Inputs.{inputs_of}
use Rattle.rc_merge.specs.LastUses.{LastUses, last_uses_in}
use Rattle.rc_merge.specs.Merged.{Merges, Progress, gives_way, inputs_at}
use Rattle.rc_merge.specs.MergedList.{joined_at}
use Rattle.rc_merge.specs.Places.{items_of}
use Rattle.rc_merge.specs.Renders.{Render}
use Rattle.rc_tree.proofs.JoiningLemmas.{lists_monoid}
use Rattle.rc_tree.specs.ScopesIn.{scope_parts}
use Rattle.rc_tree.specs.Model.{ReactiveBlock}
use Rattle.rc_tree.specs.declared.fate.Fate.{Fate}
use Rattle.rc_tree.specs.declared.fate.Fate.TheVariants.{DissolvedInto}
use Rattle.rc_tree.specs.declared.fate.ScopeFate.{ScopeFate}
use Rattle.rc_tree.specs.declared.statement.ReactiveStatement.{out-ReactiveStatement}

module _ (env : Environment) (uses : LastUses) where
  -- what is told of a scope that gave way is fresh
  abbrev IsFresh : ScopeId → Fate → Type 0
  IsFresh scope (DissolvedInto parent) = (render : Render) → RecomputesWith env render scope parent
  IsFresh scope _ = Unit {0}

  abbrev IsFreshEntry : ScopeFate → Type 0
  IsFreshEntry entry = IsFresh entry.scope entry.fate

  abbrev AreFresh : List ScopeFate → Type 0
  AreFresh = EachEntry IsFreshEntry

  -- the facts of each state
  record Stays (met : Progress) : Type 0 where
    dependencies : HasDependencies env.scopes met.scopes
    fresh : AreFresh met.log

  gives_fresh : (met : Progress) (parent scope : ScopeId) → HasDependencies env.scopes met.scopes
      → gives_way env uses met.scopes parent scope ≡ true → (render : Render) → RecomputesWith env render scope parent
  gives_fresh met parent scope stays gives render it =
      let own : inputs_at env uses met.scopes scope ≡ inputs_at env uses env.scopes scope =
      ap (inputs_of env) (stays scope) in
      let around : inputs_at env uses met.scopes parent ≡ inputs_at env uses env.scopes parent =
      ap (inputs_of env) (stays parent) in
      let needed = in_contains (inputs_at env uses env.scopes scope) it.input it.needed in
      let covered = same_covers (inputs_at env uses met.scopes parent) (inputs_at env uses met.scopes scope) gives
      it.input (subst (In it.input) (sym own) needed) in
      record {
        input = it.input;
        changed = it.changed;
        needed = contains_in (inputs_at env uses env.scopes parent) it.input (subst (In it.input) around covered);
      }

  states : IsOfStates env uses Stays (λ scopes. Unit {0}) scope_parts
  states = record {
    around = λ met scope stays. record { dependencies = stays.dependencies; fresh = stays.fresh };
    dissolved = λ met parent scope stays gives.
        let entry : ScopeFate = record { scope = scope; fate = DissolvedInto parent } in
        record {
          dependencies = stays.dependencies;
          fresh = each_both IsFreshEntry met.log (entry ∷ []) stays.fresh
              (each_one IsFreshEntry entry (gives_fresh met parent scope stays.dependencies gives));
        };
    list = λ met xs stays known.
        let items = items_of env met.scopes (map out-ReactiveStatement xs) in
        record {
          dependencies = list_dependencies env uses env.scopes met xs stays.dependencies;
          fresh = each_both IsFreshEntry met.log (joined_at env uses met.copies met.scopes items) stays.fresh
              (joined_each IsFreshEntry env uses met.copies met.scopes (λ before. Unit {0}) (λ it before k. tt)
              (λ before scope k is. tt) items tt);
        };
  }

pub any_parts : IsOfParts (λ (scopes : List ScopeId). Unit {0}) scope_parts
any_parts = record {
  nothing = tt;
  both = λ x y j k. tt;
  first = λ x y k. tt;
  second = λ x y k. tt;
  inside = λ of x k. tt;
  around = λ of x y j k. tt;
  inside_pruned = λ of x k. tt;
  around_pruned = λ of x y j k. tt;
}

module _ (before : ReactiveBlock) (old : Environment) (after : ReactiveBlock) (new : Environment)
    (log : List ScopeFate) (merges : Merges before old after new log) where
  ended : Stays old (last_uses_in old before)
      (record { around = None; scopes = new.scopes; copies = merges.copies; log = log })
  ended = (merging_facts (λ scopes. Unit {0}) scope_parts lists_monoid any_parts (Stays old (last_uses_in old before))
      before old after new log (states old (last_uses_in old before)) merges tt
      (record { dependencies = λ n. refl; fresh = each_none (IsFreshEntry old (last_uses_in old before)) })).0

  -- what merging decided of scopes that gave way is fresh
  pub dissolves_fresh : DissolvesFresh old log
  dissolves_fresh render scope parent gone =
      ended.fresh (record { scope = scope; fate = DissolvedInto parent })
      (in_contains log (record { scope = scope; fate = DissolvedInto parent }) gone) render

  -- and no scope's dependencies changed
  pub merging_dependencies : HasDependencies old.scopes new.scopes
  merging_dependencies = ended.dependencies
