-- Where scopes lose dependencies, every number that was in its table still is.
use Rattle.std.proofs.Common.{◌≡◌, ◌+◌, ℕ, suc, Bool, true, false, List, [], ◌∷◌, ◌++◌, All, length, if◌then◌else◌}
use Rattle.std.proofs.Common.{sym, ap, subst, refl, flat_map, filter, get_or}
use Rattle.std.proofs.lemmas.List.Elements.{All-append}
use Rattle.rc_hir.specs.EnvironmentNames.{declaration_names, dependency_names, early_return_names, environment_names}
use Rattle.rc_hir.specs.EnvironmentNames.{identifier_names, scope_names, type_names}
use Rattle.rc_hir.specs.GraphNames.{function_names}
use Rattle.rc_hir.specs.Names.{FunctionInTables, IsInTable, NamesInTables, lengths}
use Rattle.rc_hir.specs.PartNames.{Name, identifier_name, names_if, parameter_names, scope_name}
use Rattle.rc_hir.specs.Model.{Environment, HirFunction, Lengths, ReactiveScope, ReactiveScopeDependency}
use Rattle.rc_names.specs.Numbers.{to_id}
use Rattle.rc_runs.proofs.AllLemmas.{All-left, All-right}
use Rattle.rc_tree.specs.TreeNames.{TreeInTables, names_in}
use Rattle.rc_tree.specs.Model.{ReactiveFunction}
use Rattle.rc_flow.specs.declared.spread.Spread.{Spread}
use Rattle.rc_flow.specs.inside.Pruned.{pruned, pruned_from}
use Rattle.rc_flow.specs.inside.Spread.{stays}

pub same_length : (s : Spread) (number : ℕ) (scopes : List ReactiveScope)
    → length (pruned_from s number scopes) ≡ length scopes
same_length s number [] = refl
same_length s number (scope ∷ scopes) = ap (λ n. suc n) (same_length s (number + 1) scopes)

module _ (P : Name → Type 0) where
  -- the numbers of what is left of a list
  left_all : {X : Type 0} (names : X → List Name) (test : X → Bool) (xs : List X) → All P (flat_map names xs)
      → All P (flat_map names (filter test xs))
  left_all names test [] all = all
  left_all names test (x ∷ xs) all =
      by (test x) (left_all names test xs (All-right P (names x) (flat_map names xs) all))
    where
      by : (b : Bool) → All P (flat_map names (filter test xs))
          → All P (flat_map names (if b then x ∷ filter test xs else filter test xs))
      by true rest = All-append P (names x) (flat_map names (filter test xs))
          (All-left P (names x) (flat_map names xs) all) rest
      by false rest = rest

  -- the numbers of a scope besides its dependencies
  abbrev declared : ReactiveScope → List Name
  declared scope = flat_map declaration_names scope.declarations

  abbrev others : ReactiveScope → List Name
  others scope = flat_map identifier_name scope.reassignments
      ++ (names_if early_return_names scope.early_return_value ++ flat_map scope_name scope.merged)

  scope_all : (test : ReactiveScopeDependency → Bool) (scope : ReactiveScope) → All P (scope_names scope)
      → All P (scope_names (record scope { dependencies = filter test scope.dependencies }))
  scope_all test scope all =
      let deps = flat_map dependency_names scope.dependencies in
      let front = All-left P (deps ++ declared scope) (others scope) all in
      All-append P (flat_map dependency_names (filter test scope.dependencies) ++ declared scope) (others scope)
      (All-append P (flat_map dependency_names (filter test scope.dependencies)) (declared scope)
      (left_all dependency_names test scope.dependencies (All-left P deps (declared scope) front))
      (All-right P deps (declared scope) front))
      (All-right P (deps ++ declared scope) (others scope) all)

  scopes_all : (s : Spread) (number : ℕ) (scopes : List ReactiveScope) → All P (flat_map scope_names scopes)
      → All P (flat_map scope_names (pruned_from s number scopes))
  scopes_all s number [] all = all
  scopes_all s number (scope ∷ scopes) all =
      All-append P (scope_names (pruned s (to_id number) scope))
      (flat_map scope_names (pruned_from s (number + 1) scopes))
      (scope_all (stays s (to_id number)) scope (All-left P (scope_names scope) (flat_map scope_names scopes) all))
      (scopes_all s (number + 1) scopes (All-right P (scope_names scope) (flat_map scope_names scopes) all))

-- the environment with the pruned scopes
module _ (env : Environment) (s : Spread) where
  abbrev after : Environment
  after = record env { scopes = pruned_from s 0 env.scopes }

  same_lengths : (rows : ℕ) → lengths env rows ≡ lengths after rows
  same_lengths rows = λ i. record {
    identifiers = length env.identifiers;
    types = length env.types;
    scopes = sym (same_length s 0 env.scopes) i;
    functions = length env.functions;
    instructions = rows;
    shapes = length env.shapes;
  }

  moved : (rows : ℕ) (names : List Name) → All (IsInTable (lengths env rows)) names
      → All (IsInTable (lengths after rows)) names
  moved rows names = subst (λ (tables : Lengths). All (IsInTable tables) names) (same_lengths rows)

  environment_known : All (IsInTable (lengths env 0)) (environment_names env)
      → All (IsInTable (lengths after 0)) (environment_names after)
  environment_known known =
      let P = IsInTable (lengths env 0) in
      let first = flat_map identifier_names env.identifiers in
      let second = flat_map type_names env.types in
      let scopes = flat_map scope_names env.scopes in
      let left = flat_map scope_names (pruned_from s 0 env.scopes) in
      let back = All-right P first (second ++ scopes) known in
      moved 0 (first ++ (second ++ left))
      (All-append P first (second ++ left) (All-left P first (second ++ scopes) known)
      (All-append P second left (All-left P second scopes back)
      (scopes_all P s 0 env.scopes (All-right P second scopes back))))

  functions_known : All (FunctionInTables env) env.functions → All (FunctionInTables after) env.functions
  functions_known known = λ k function below.
      moved (length (get_or env.functions k function).instructions)
      (function_names (get_or env.functions k function)) (known k function below)

  pub names_known : (hir : HirFunction) → NamesInTables hir env → NamesInTables hir after
  names_known hir known = record {
    graph = moved (length hir.instructions) (function_names hir) known.graph;
    functions = functions_known known.functions;
    environment = environment_known known.environment;
  }

  pub pruned_known : (func : ReactiveFunction) → TreeInTables func env → TreeInTables func after
  pruned_known func known = record {
    params = moved 0 (flat_map parameter_names func.params) known.params;
    body = moved 0 (names_in func.body) known.body;
    functions = functions_known known.functions;
    environment = environment_known known.environment;
  }
