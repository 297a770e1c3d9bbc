-- The reason of a scope: its fate, and what the rule of that fate read of the function and of the environment that its
-- pass received.
use Rattle.std.specs.Prelude.{◌≡◌, ℕ, All, Contains, List, Option, None, Some, length, map, slice_get, true}
use Rattle.std.specs.List.{find}
use Rattle.rc_hir.specs.Model.{DeclarationEntry, Environment, HirFunction, ReactiveScope}
use Rattle.rc_names.specs.Numbers.{DeclarationId, ScopeId, is_among}
use Rattle.rc_order.specs.Order.{AreInOrder}
use Rattle.rc_tree.specs.Decided.{IsFateBy}
use Rattle.rc_tree.specs.Model.{ReactiveBlock}
use Rattle.rc_tree.specs.declared.fate.Fate.{Fate}
use Rattle.rc_tree.specs.declared.fate.Fate.TheVariants as fates
use Rattle.rc_tree.specs.declared.fate.ScopeFate.{ScopeFate}
use Rattle.rc_escape.specs.Outputs.{outputs}
use Rattle.rc_flow.specs.InvalidatingCauses.{IsInvalidatingCause}
use Rattle.rc_merge.specs.Explained.{AreMergedFacts, Joined, ListsJoined, pairs_of}
use Rattle.rc_merge.specs.Joining.{joins}
use Rattle.rc_merge.specs.LastUses.{last_uses_in}
use Rattle.rc_merge.specs.Places.{scope_at}
use Rattle.rc_merge.specs.declared.facts.DepPair.{DepPair}
use Rattle.rc_pipe.specs.Headline.{IsAnswer}
use Rattle.rc_pipe.specs.Passes.{IsPruned, PassState, fate_rules}
use Rattle.rc_pipe.specs.declared.pipeline.Pruned.{Pruned}
use Rattle.rc_why.specs.CountedReturns.{counted_blocks}
use Rattle.rc_why.specs.declared.reason.Facts.{Facts}
use Rattle.rc_why.specs.declared.reason.Facts.TheVariants as facts
use Rattle.rc_why.specs.declared.reason.Reason.{Reason}

module _ (env : Environment) (body : ReactiveBlock) where
  -- the facts of an unused scope, by its entry in the table and by its block: the scope by which each of its values was
  -- declared, and how many names it reassigns and how many `Return`s it has
  pub record AreUnusedFacts (scope : ScopeId) (declared_by : List ScopeId) (reassignments returns : ℕ) : Type 0 where
    pub own : ReactiveScope
    pub here : slice_get env.scopes scope.0 ≡ Some own
    pub declared : declared_by ≡ map (λ (entry : DeclarationEntry). entry.value.scope) own.declarations
    pub reassigned : reassignments ≡ length own.reassignments
    pub returned : Contains (counted_blocks body) (record { scope = scope; returns = returns })

  -- merging the body joins this scope to its head
  pub record IsJoined (is : Joined) : Type 0 where
    pub joined : List Joined
    pub lists : ListsJoined env body joined
    pub among : Contains joined is
    pub joins : joins env (last_uses_in env body) is.copies is.head.own is.names is.next.own ≡ true

-- what the scope with that number depends on
abbrev pub pairs_at : Environment → ScopeId → List DepPair
pairs_at env scope = pairs_of env (scope_at env.scopes scope).own.dependencies

module _ {spelled pruned : PassState} (passes : IsPruned spelled pruned) where
  -- the names that are memoized where the escape pass judges
  abbrev pub memo_set : List DeclarationId
  memo_set = passes.escapes.scopes.without.set

  -- the facts that the rule of the fate read of the scope
  abbrev pub FactsOf : ScopeId → Fate → Facts → Type 0
  FactsOf scope fates.Kept (facts.Kept output) =
      output ≡ find (is_among memo_set) (outputs passes.labeled.env scope)
  FactsOf scope fates.NotEscaping (facts.NotEscaping all memoized) =
      (all ≡ outputs passes.labeled.env scope) × AreInOrder memo_set memoized
  FactsOf scope fates.Unused (facts.Unused declared_by reassignments returns) =
      AreUnusedFacts passes.others.reactive.env passes.others.reactive.func.body scope declared_by reassignments returns
  FactsOf scope (fates.DissolvedInto parent) (facts.Dissolved own around) =
      (own ≡ pairs_at passes.others.used.env scope) × (around ≡ pairs_at passes.others.used.env parent)
  FactsOf scope (fates.MergedInto head) (facts.Merged condition own declared next sources uses end) =
      (is : Joined) × IsJoined passes.others.used.env passes.others.used.func.body is
      × AreMergedFacts passes.others.used.env
      (last_uses_in passes.others.used.env passes.others.used.func.body) is (record {
        scope = scope;
        into = head;
        condition = condition;
        head = own;
        outputs = declared;
        next = next;
        sources = sources;
        uses = uses;
        end = end;
      })
  FactsOf scope fates.AlwaysInvalidating (facts.AlwaysInvalidating dependency) =
      IsInvalidatingCause passes.others.merged.env passes.others.merged.func.body
      (record { scope = scope; dependency = dependency })
  FactsOf scope fate other = ⊥

  -- the reason of a scope: its fate is by the rules of the passes, and its facts are those that the rule read
  pub record ReasonOf (reason : Reason) : Type 0 where
    pub fate : IsFateBy (fate_rules passes) reason.scope reason.fate
    pub facts : FactsOf reason.scope reason.fate reason.facts

-- the scope of a reason with its fate
abbrev pub fate_of : Reason → ScopeFate
fate_of reason = record { scope = reason.scope; fate = reason.fate }

-- one reason for each fate of the graph's answer, in the order of the fates
pub record AreReasons (hir : HirFunction) (env : Environment) (reasons : List Reason) : Type 0 where
  pub answered : Environment
  pub pruned : Pruned
  pub answer : IsAnswer hir env answered pruned
  pub fates : map fate_of reasons ≡ pruned.fates
  pub each : All (ReasonOf answer.passes) reasons
