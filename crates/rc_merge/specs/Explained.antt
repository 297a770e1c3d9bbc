-- Merging, with each scope that joins a head and the facts of it.
use Rattle.std.specs.Prelude.{◌≡◌, ◌↔◌, Bool, true, All, Contains, List, [], ◌∷◌, ◌++◌, Option, Some, Ok, map}
use Rattle.std.specs.Prelude.{if◌then◌else◌}
use Rattle.std.specs.List.{AllZip}
use Rattle.rc_hir.specs.Environment.{declaration_of}
use Rattle.rc_hir.specs.Model.{DeclarationEntry, Environment, ReactiveScope, ReactiveScopeDependency}
use Rattle.rc_merge.specs.Groups.{copies_at, head_at, joins_at, names_at}
use Rattle.rc_merge.specs.Joining.{Copies, declared_name, joins, shares_inputs, source_of, takes_outputs}
use Rattle.rc_merge.specs.LastUses.{LastUses, last_uses_in}
use Rattle.rc_merge.specs.Merged.{Progress, met_list, met_scope, nothing_met}
use Rattle.rc_merge.specs.Places.{Block, Item, NumberedScope, items_of}
use Rattle.rc_merge.specs.declared.facts.DepPair.{DepPair}
use Rattle.rc_merge.specs.declared.facts.MergeCondition.{MergeCondition}
use Rattle.rc_merge.specs.declared.facts.MergeCondition.TheVariants as conditions
use Rattle.rc_merge.specs.declared.facts.MergedFacts.{MergedFacts}
use Rattle.rc_merge.specs.declared.facts.NotedUse.{NotedUse}
use Rattle.rc_names.specs.Numbers.{DeclarationId, ScopeId}
use Rattle.rc_order.specs.Order.{AreInOrder}
use Rattle.rc_tree.specs.Model.{ReactiveBlock, ReactiveScopeBlock, ReactiveStatement}
use Rattle.rc_tree.specs.Rebuilt.{Rules, rebuilt_block}
use Rattle.rc_tree.specs.declared.fate.Fate.TheVariants.{MergedInto}
use Rattle.rc_tree.specs.declared.fate.ScopeFate.{ScopeFate}
use Rattle.rc_tree.specs.declared.statement.ReactiveStatement.{out-ReactiveStatement}
use Rattle.rc_tree.specs.declared.statement.ReactiveStatement.TheVariants as reactive

-- a scope that joins a head: the head as grown so far, the names that are noted since the block before, and the copies
-- that are known
pub record Joined : Type 0 where
  pub head : NumberedScope
  pub next : NumberedScope
  pub names : List DeclarationId
  pub copies : Copies

-- how far merging has come, with each scope that joined a head
pub record Explained : Type 0 where
  pub met : Progress
  pub joined : List Joined

-- the numbers of the scope and of its head
abbrev pub numbers_of : Joined → ScopeId × ScopeId
numbers_of is = (is.next.number, is.head.number)

module _ (env : Environment) where
  abbrev pub pair_of : ReactiveScopeDependency → DepPair
  pair_of dependency = record { declaration = declaration_of env dependency.identifier; path = dependency.path }

  abbrev pub pairs_of : List ReactiveScopeDependency → List DepPair
  pairs_of dependencies = map pair_of dependencies

  -- the first condition that holds, where one does
  abbrev pub condition_of : ReactiveScope → ReactiveScope → MergeCondition
  condition_of head next =
      if shares_inputs env head next then conditions.Same
      else (if takes_outputs env head next then conditions.Outputs else conditions.Sources)

  -- the declared name that a dependency is or copies
  abbrev pub source_by : Copies → List DeclarationEntry → ReactiveScopeDependency → Option DeclarationId
  source_by copies entries dependency = source_of env copies entries (declaration_of env dependency.identifier)

  abbrev pub source_in : Joined → ReactiveScopeDependency → Option DeclarationId
  source_in is = source_by is.copies is.head.own.declarations

  -- under the third condition, the output that each dependency is or copies
  abbrev pub AreSources : MergeCondition → Joined → List DeclarationId → Type 0
  AreSources conditions.Sources is sources =
      map (λ source. Some source) sources ≡ map (source_in is) is.next.own.dependencies
  AreSources _ is sources = sources ≡ []

  module _ (uses : LastUses) where
    abbrev pub joined_by : Bool → Option NumberedScope → NumberedScope → List DeclarationId → Copies → List Joined
    joined_by true (Some head) next names copies =
        record { head = head; next = next; names = names; copies = copies } ∷ []
    joined_by _ head next names copies = []

    -- the scopes of a list that join a head, in order
    abbrev pub joined_in : Copies → List Item → List Joined
    joined_in copies [] = []
    joined_in copies (Block scope ∷ before) = joined_in copies before
        ++ joined_by (joins_at env uses copies before scope) (head_at env uses copies before) scope (names_at before)
        (copies_at env uses copies before)
    joined_in copies (_ ∷ before) = joined_in copies before

    -- merging's rules, which list besides which scopes joined
    abbrev pub after_scope : Explained → ReactiveScopeBlock → Explained → Explained × List ReactiveStatement
    after_scope before block is = (
      record is { met = (met_scope env uses before.met.around block is.met).0 },
      (met_scope env uses before.met.around block is.met).1,
    )

    abbrev pub after_list : List ReactiveStatement → Explained → Explained × List ReactiveStatement
    after_list statements is = (
      record {
        met = (met_list env uses statements is.met).0;
        joined = is.joined ++ joined_in is.met.copies
            (items_of env is.met.scopes (map out-ReactiveStatement statements));
      },
      (met_list env uses statements is.met).1,
    )

    abbrev pub explained_rules : Rules Explained
    explained_rules = record {
      row = λ row is. Ok (is, reactive.Instruction row ∷ []);
      terminal = λ statement is. Ok (is, reactive.Terminal statement ∷ []);
      pruned_scope = λ block is. Ok (is, reactive.PrunedScope block ∷ []);
      into_scope = λ scope is. record is { met = record is.met { around = Some scope } };
      scope = λ before block is. Ok (after_scope before block is);
      block = λ statements is. Ok (after_list statements is);
    }

    -- the scope joins the head
    abbrev pub DoesJoin : Joined → Type 0
    DoesJoin is = joins env uses is.copies is.head.own is.names is.next.own ≡ true

    -- the facts of a scope that joins a head
    pub record AreMergedFacts (is : Joined) (facts : MergedFacts) : Type 0 where
      pub number : facts.scope ≡ is.next.number
      pub into : facts.into ≡ is.head.number
      pub holds : facts.condition ≡ condition_of is.head.own is.next.own
      pub of_head : facts.head ≡ pairs_of is.head.own.dependencies
      pub declared : facts.outputs ≡ map (declared_name env) is.head.own.declarations
      pub of_next : facts.next ≡ pairs_of is.next.own.dependencies
      pub from : AreSources facts.condition is facts.sources
      pub names : AreInOrder is.names (map (λ (entry : NotedUse). entry.declaration) facts.uses)
      pub last : All (λ (entry : NotedUse). entry.last ≡ uses entry.declaration) facts.uses
      pub ends : facts.end ≡ is.next.own.range.end

  -- merging this body lists these scopes as joined
  pub record ListsJoined (body : ReactiveBlock) (joined : List Joined) : Type 0 where
    pub met : Progress
    pub after : ReactiveBlock
    pub rebuilt : rebuilt_block (explained_rules (last_uses_in env body)) body
        (record { met = nothing_met env.scopes; joined = [] }) ≡ Ok (record { met = met; joined = joined }, after)

  -- the facts are those of the scopes that join a head where this body is merged, in order, and the log has a scope
  -- merged into a head exactly if there are facts of it
  pub record AreExplained (body : ReactiveBlock) (log : List ScopeFate) (merged : List MergedFacts) : Type 0 where
    pub joined : List Joined
    pub lists : ListsJoined body joined
    pub each : AllZip (AreMergedFacts (last_uses_in env body)) joined merged
    pub joins : All (DoesJoin (last_uses_in env body)) joined
    pub decided : (scope head : ScopeId) → Contains log (record { scope = scope; fate = MergedInto head })
        ↔ Contains {X = ScopeId × ScopeId} (map (λ (facts : MergedFacts). (facts.scope, facts.into)) merged)
        (scope, head)
