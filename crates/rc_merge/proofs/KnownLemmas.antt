-- The numbers of scopes that grow, and of an environment with as many other scopes, stay in their tables.
use Rattle.std.proofs.Common.{◌≡◌, ◌∙◌, ℕ, zero, suc, Bool, true, false, List, [], ◌∷◌, ◌++◌, All, length}
use Rattle.std.proofs.Common.{if◌then◌else◌, sym, ap, subst, flat_map, filter, get_or}
use Rattle.std.proofs.lemmas.List.Concat.{flat_map-append}
use Rattle.std.proofs.lemmas.List.Elements.{All-append, All-nil}
use Rattle.rc_hir.specs.EnvironmentNames.{declaration_names, dependency_names, early_return_names, environment_names}
use Rattle.rc_hir.specs.EnvironmentNames.{identifier_names, scope_names, type_names}
use Rattle.rc_hir.specs.GraphNames.{function_names}
use Rattle.rc_hir.specs.Names.{EnvironmentInTables, FunctionInTables, IsInTable, NamesInTables, lengths}
use Rattle.rc_hir.specs.PartNames.{Name, identifier_name, names_if, parameter_names, scope_name}
use Rattle.rc_hir.specs.Model.{DeclarationEntry, Environment, HirFunction, Lengths, ReactiveScope}
use Rattle.rc_names.specs.Numbers.{ScopeId, same_id, to_id}
use Rattle.rc_merge.proofs.GroupsHold.{own_at}
use Rattle.rc_merge.proofs.MergingFacts.{IsOfParts}
use Rattle.rc_merge.specs.Joining.{grown, grown_end, is_still_used, put_declaration, put_declarations}
use Rattle.rc_merge.specs.LastUses.{LastUses}
use Rattle.rc_merge.specs.Places.{NumberedScope}
use Rattle.rc_runs.proofs.AllLemmas.{All-left, All-right}
use Rattle.rc_tree.specs.TreeNames.{Names, TreeInTables, names_in, names_of_parts}
use Rattle.rc_tree.specs.Model.{ReactiveFunction}

module _ (P : Name → Type 0) where
  -- each number of a scope is such
  abbrev pub ScopeHolds : ReactiveScope → Type 0
  ScopeHolds scope = All P (scope_names scope)

  abbrev dependencies_in : ReactiveScope → Names
  dependencies_in scope = flat_map dependency_names scope.dependencies

  abbrev declarations_in : List DeclarationEntry → Names
  declarations_in = flat_map declaration_names

  abbrev early_in : ReactiveScope → Names
  early_in scope = names_if early_return_names scope.early_return_value

  -- the parts of that fact
  record ScopeParts (scope : ReactiveScope) : Type 0 where
    dependencies : All P (dependencies_in scope)
    declarations : All P (declarations_in scope.declarations)
    reassignments : All P (flat_map identifier_name scope.reassignments)
    early : All P (early_in scope)
    merged : All P (flat_map scope_name scope.merged)

  in_parts : (scope : ReactiveScope) → ScopeHolds scope → ScopeParts scope
  in_parts scope all =
      let front = dependencies_in scope ++ declarations_in scope.declarations in
      let last = early_in scope ++ flat_map scope_name scope.merged in
      let reassigned = flat_map identifier_name scope.reassignments in
      let one = All-left P front (reassigned ++ last) all in
      let other = All-right P front (reassigned ++ last) all in
      let end = All-right P reassigned last other in
      record {
        dependencies = All-left P (dependencies_in scope) (declarations_in scope.declarations) one;
        declarations = All-right P (dependencies_in scope) (declarations_in scope.declarations) one;
        reassignments = All-left P reassigned last other;
        early = All-left P (early_in scope) (flat_map scope_name scope.merged) end;
        merged = All-right P (early_in scope) (flat_map scope_name scope.merged) end;
      }

  of_scope_parts : (scope : ReactiveScope) → ScopeParts scope → ScopeHolds scope
  of_scope_parts scope parts =
      let last = early_in scope ++ flat_map scope_name scope.merged in
      let reassigned = flat_map identifier_name scope.reassignments in
      All-append P (dependencies_in scope ++ declarations_in scope.declarations) (reassigned ++ last)
      (All-append P (dependencies_in scope) (declarations_in scope.declarations) parts.dependencies parts.declarations)
      (All-append P reassigned last parts.reassignments
      (All-append P (early_in scope) (flat_map scope_name scope.merged) parts.early parts.merged))

  -- declarations that are put, and those that are left
  put_holds : (entries : List DeclarationEntry) (entry : DeclarationEntry) → All P (declarations_in entries)
      → All P (declaration_names entry) → All P (declarations_in (put_declaration entries entry))
  put_holds [] entry all one = All-append P (declaration_names entry) [] one (All-nil P)
  put_holds (x ∷ xs) entry all one =
      let rest = All-right P (declaration_names x) (declarations_in xs) all in
      by (same_id x.key entry.key) rest (put_holds xs entry rest one)
    where
      by : (b : Bool) → All P (declarations_in xs) → All P (declarations_in (put_declaration xs entry))
          → All P (declarations_in (if b then entry ∷ xs else x ∷ put_declaration xs entry))
      by true rest put = All-append P (declaration_names entry) (declarations_in xs) one rest
      by false rest put = All-append P (declaration_names x) (declarations_in (put_declaration xs entry))
          (All-left P (declaration_names x) (declarations_in xs) all) put

  puts_hold : (entries more : List DeclarationEntry) → All P (declarations_in entries) → All P (declarations_in more)
      → All P (declarations_in (put_declarations entries more))
  puts_hold entries [] all added = all
  puts_hold entries (entry ∷ more) all added =
      puts_hold (put_declaration entries entry) more
      (put_holds entries entry all (All-left P (declaration_names entry) (declarations_in more) added))
      (All-right P (declaration_names entry) (declarations_in more) added)

  left_hold : (test : DeclarationEntry → Bool) (xs : List DeclarationEntry) → All P (declarations_in xs)
      → All P (declarations_in (filter test xs))
  left_hold test [] all = all
  left_hold test (x ∷ xs) all =
      by (test x) (left_hold test xs (All-right P (declaration_names x) (declarations_in xs) all))
    where
      by : (b : Bool) → All P (declarations_in (filter test xs))
          → All P (declarations_in (if b then x ∷ filter test xs else filter test xs))
      by true rest = All-append P (declaration_names x) (declarations_in (filter test xs))
          (All-left P (declaration_names x) (declarations_in xs) all) rest
      by false rest = rest

  -- a scope that has grown
  pub grown_holds : (env : Environment) (uses : LastUses) (head next : NumberedScope) → ScopeHolds head.own
      → ScopeHolds next.own → All P (scope_name next.number) → ScopeHolds (grown env uses head next).own
  grown_holds env uses head next one other number =
      let parts = in_parts head.own one in
      let more = in_parts next.own other in
      of_scope_parts (grown env uses head next).own (record {
        dependencies = parts.dependencies;
        declarations = left_hold (is_still_used env uses (grown_end env head.own next.own))
            (put_declarations head.own.declarations next.own.declarations)
            (puts_hold head.own.declarations next.own.declarations parts.declarations more.declarations);
        reassignments = parts.reassignments;
        early = parts.early;
        merged = subst (All P) (sym (flat_map-append scope_name head.own.merged (next.number ∷ [])))
            (All-append P (flat_map scope_name head.own.merged) (scope_name next.number ++ []) parts.merged
            (All-append P (scope_name next.number) [] number (All-nil P)));
      })

  -- the numbers of each scope of a table
  pub each_holds : (scopes : List ReactiveScope) → All P (flat_map scope_names scopes) → (n : ScopeId)
      → ScopeHolds (own_at scopes n)
  each_holds scopes all n = by scopes all n.0
    where
      by : (xs : List ReactiveScope) → All P (flat_map scope_names xs) → (k : ℕ) → ScopeHolds (own_at xs (to_id k))
      by [] all k = All-nil P
      by (x ∷ xs) all zero = All-left P (scope_names x) (flat_map scope_names xs) all
      by (x ∷ xs) all (suc k) = by xs (All-right P (scope_names x) (flat_map scope_names xs) all) k

  -- each number of a part of the tree is such
  abbrev pub PartHolds : Names → Type 0
  PartHolds names = All P names

  pub of_parts : IsOfParts PartHolds names_of_parts
  of_parts = record {
    nothing = All-nil P;
    both = λ x y. All-append P x y;
    first = λ x y. All-left P x y;
    second = λ x y. All-right P x y;
    inside = λ of x. All-right P (scope_name of) x;
    around = λ of x y k j. All-append P (scope_name of) y (All-left P (scope_name of) x k) j;
    inside_pruned = λ of x. All-right P (scope_name of) x;
    around_pruned = λ of x y k j. All-append P (scope_name of) y (All-left P (scope_name of) x k) j;
  }

-- the environment with other scopes, as many as before, whose numbers are in their tables
module _ (env after : Environment) (environment : after ≡ record env { scopes = after.scopes })
    (long : length after.scopes ≡ length env.scopes)
    (scopes : All (IsInTable (lengths env 0)) (flat_map scope_names after.scopes)) where
  abbrev Known : Name → Type 0
  Known = IsInTable (lengths env 0)

  abbrev front : Names
  front = flat_map identifier_names env.identifiers

  abbrev middle : Names
  middle = flat_map type_names env.types

  -- no table is longer or shorter
  same_lengths : (rows : ℕ) → lengths env rows ≡ lengths after rows
  same_lengths rows = (λ i. record {
    identifiers = length env.identifiers;
    types = length env.types;
    scopes = sym long i;
    functions = length env.functions;
    instructions = rows;
    shapes = length env.shapes;
  }) ∙ ap (λ (e : Environment). lengths e rows) (sym environment)

  moved : (rows : ℕ) (names : Names) → All (IsInTable (lengths env rows)) names
      → All (IsInTable (lengths after rows)) names
  moved rows names = subst (λ (tables : Lengths). All (IsInTable tables) names) (same_lengths rows)

  environment_known : EnvironmentInTables env → EnvironmentInTables after
  environment_known known =
      let own = flat_map scope_names env.scopes in
      let merged = flat_map scope_names after.scopes in
      let back = All-right Known front (middle ++ own) known in
      subst (λ (e : Environment). All (IsInTable (lengths after 0)) (environment_names e)) (sym environment)
      (moved 0 (front ++ (middle ++ merged))
      (All-append Known front (middle ++ merged) (All-left Known front (middle ++ own) known)
      (All-append Known middle merged (All-left Known middle own back) scopes)))

  functions_known : All (FunctionInTables env) env.functions → All (FunctionInTables after) after.functions
  functions_known known = subst (λ (e : Environment). All (FunctionInTables after) e.functions) (sym environment)
      (λ k function below.
      moved (length (get_or env.functions k function).instructions)
      (function_names (get_or env.functions k function)) (known k function below))

  -- so numbers of a tree and of the environment that are in their tables stay there
  pub tables_known : (old new : ReactiveFunction) → new ≡ record old { body = new.body } → TreeInTables old env
      → All Known (names_in new.body) → TreeInTables new after
  tables_known old new header known body = record {
    params = subst (λ params. All (IsInTable (lengths after 0)) (flat_map parameter_names params))
        (sym (ap (λ (f : ReactiveFunction). f.params) header))
        (moved 0 (flat_map parameter_names old.params) known.params);
    body = moved 0 (names_in new.body) body;
    functions = functions_known known.functions;
    environment = environment_known known.environment;
  }

  -- and so do those of a graph
  pub graph_known : (graph : HirFunction) → NamesInTables graph env → NamesInTables graph after
  graph_known graph known = record {
    graph = moved (length graph.instructions) (function_names graph) known.graph;
    functions = functions_known known.functions;
    environment = environment_known known.environment;
  }

-- the numbers of the scopes of an environment
pub scopes_known : (env : Environment) → EnvironmentInTables env
    → All (IsInTable (lengths env 0)) (flat_map scope_names env.scopes)
scopes_known env known =
    let P = IsInTable (lengths env 0) in
    let own = flat_map scope_names env.scopes in
    let types = flat_map type_names env.types in
    All-right P types own (All-right P (flat_map identifier_names env.identifiers) (types ++ own) known)
