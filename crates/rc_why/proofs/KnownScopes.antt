-- In a tree whose numbers are in their tables, each scope block has a scope of the table.
use Rattle.std.proofs.Common.{◌<◌, List, [], ◌∷◌, ◌++◌, All, Contains, arith, length}
use Rattle.std.proofs.lemmas.List.Elements.{All-append, All-contains, All-nil, All-push}
use Rattle.rc_hir.specs.Model.{Environment}
use Rattle.rc_hir.specs.Names.{IsInTable, lengths}
use Rattle.rc_hir.specs.PartNames.{Name, scope_name}
use Rattle.rc_hir.specs.declared.fault.TableName.TheVariants.{Scopes}
use Rattle.rc_names.specs.Numbers.{ScopeId}
use Rattle.rc_runs.proofs.AllLemmas.{All-left, All-right}
use Rattle.rc_tree.proofs.CollectedRelated.{RelatedParts, collected_related}
use Rattle.rc_tree.specs.Model.{ReactiveBlock, ReactiveFunction}
use Rattle.rc_tree.specs.ScopesIn.{scope_parts, scopes_in}
use Rattle.rc_tree.specs.TreeNames.{TreeInTables, names_of_parts}

module _ (env : Environment) where
  abbrev InTable : Name → Type 0
  InTable = IsInTable (lengths env 0)

  abbrev IsKnown : ScopeId → Type 0
  IsKnown scope = scope.0 < length env.scopes

  -- where these numbers are in their tables, so are these scopes
  abbrev Covers : List Name → List ScopeId → Type 0
  Covers names scopes = All InTable names → All IsKnown scopes

  both : (names more : List Name) (scopes others : List ScopeId) → Covers names scopes → Covers more others
      → Covers (names ++ more) (scopes ++ others)
  both names more scopes others one other all = All-append IsKnown scopes others
      (one (All-left InTable names more all)) (other (All-right InTable names more all))

  ended : (scope : ScopeId) (names : List Name) (scopes : List ScopeId) → Covers names scopes
      → Covers (scope_name scope ++ names) (scopes ++ scope ∷ [])
  ended scope names scopes inside all = All-push IsKnown scopes scope
      (inside (All-right InTable (scope_name scope) names all)) (all 0 (Scopes, 0) (omega arith))

  parts : RelatedParts Covers names_of_parts scope_parts
  parts = record {
    joined = record { nothing = λ all. All-nil IsKnown; both = both };
    row = λ x all. All-nil IsKnown;
    value = λ id x all. All-nil IsKnown;
    place = λ id x all. All-nil IsKnown;
    returned = λ id x all. All-nil IsKnown;
    jump = λ target all. All-nil IsKnown;
    label = λ label all. All-nil IsKnown;
    scope = ended;
    pruned_scope = λ scope names scopes inside all. inside (All-right InTable (scope_name scope) names all);
  }

pub scope_known : {func : ReactiveFunction} {env : Environment} → TreeInTables func env → (scope : ScopeId)
    → Contains (scopes_in func.body) scope → scope.0 < length env.scopes
scope_known {func} {env} known scope there = All-contains (IsKnown env) (scopes_in func.body) scope
    (collected_related (Covers env) names_of_parts scope_parts (parts env) func.body known.body) there
