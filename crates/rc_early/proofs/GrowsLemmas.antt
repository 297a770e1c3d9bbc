-- Adding entries to the environment: tables grow, and numbers stay in their tables.
use Rattle.std.proofs.Common.{◌≡◌, ◌∙◌, ◌+◌, ◌≤◌, ◌<◌, ◌++◌, ℕ, List, [], ◌∷◌, Option, None, Some, All, Result, Ok, Err}
use Rattle.std.proofs.Common.{OnErr, refl, sym, ap, subst}
use Rattle.std.proofs.Common.{length, flat_map, slice_get, slice_set, arith, length-append, option_map, zero, suc}
use Rattle.std.proofs.lemmas.Grind.{flat_map-append}
use Rattle.std.proofs.lemmas.List.{length-set}
use Rattle.std.proofs.lemmas.List.Elements.{All-append, All-cons, All-nil, All-weaker}
use Rattle.rc_early.specs.Entries.{promoted, returning, set_if, with_block, with_entry, with_variable}
use Rattle.rc_early.specs.declared.early_return.EarlyReturn.{EarlyReturn}
use Rattle.rc_early.specs.inside.Growing.{Grows}
use Rattle.rc_hir.specs.Environment.{unnamed, with_identifier, with_type}
use Rattle.rc_hir.specs.EnvironmentNames.{declaration_names, dependency_names, early_return_names, identifier_names}
use Rattle.rc_hir.specs.EnvironmentNames.{scope_names, type_names}
use Rattle.rc_hir.specs.GraphNames.{function_names}
use Rattle.rc_hir.specs.KeptNumbers.{KeepsNumbers}
use Rattle.rc_hir.specs.Names.{FunctionInTables, IsInTable, NamesInTables, length_of, lengths}
use Rattle.rc_hir.specs.PartNames.{Name, identifier_name, names_if, parameter_names, scope_name}
use Rattle.rc_hir.specs.Model.{DeclarationEntry, Environment, HirFunction, Identifier, ReactiveScope}
use Rattle.rc_hir.specs.Model.{ReactiveScopeEarlyReturn, TableName}
use Rattle.rc_hir.specs.declared.environment.IdentifierName.{IdentifierName}
use Rattle.rc_hir.specs.declared.fault.TableName.TheVariants as tables
use Rattle.rc_hir.specs.declared.types.HirType.TheVariants as types
use Rattle.rc_names.specs.Numbers.{ScopeId}
use Rattle.rc_names.specs.declared.span.Span.{Span}
use Rattle.rc_runs.proofs.AllLemmas.{All-left, All-right}
use Rattle.rc_tree.specs.TreeNames.{TreeInTables, names_in}
use Rattle.rc_tree.specs.Model.{ReactiveFunction}

-- numbers that were in their tables still are
module _ (before after : Environment) (numbers : KeepsNumbers before after) (rows : ℕ) where
  longer : (table : TableName) → length_of (lengths before rows) table ≤ length_of (lengths after rows) table
  longer tables.Identifiers = numbers.identifiers
  longer tables.Declarations = numbers.identifiers
  longer tables.Types = numbers.types
  longer tables.Scopes = numbers.scopes
  longer tables.Functions = numbers.functions
  longer tables.Instructions = omega arith
  longer tables.Shapes = numbers.shapes

  pub names_stay : (names : List Name) → All (IsInTable (lengths before rows)) names
      → All (IsInTable (lengths after rows)) names
  names_stay = All-weaker (IsInTable (lengths before rows)) (IsInTable (lengths after rows))
      (λ name h. omega (arith, h, longer name.0))

pub grows_itself : (env : Environment) → Grows env env
grows_itself env = record {
  numbers = record {
    identifiers = omega arith;
    types = omega arith;
    scopes = omega arith;
    functions = omega arith;
    shapes = omega arith;
    next_block = omega arith;
  };
  functions = refl;
  environment = λ known. known;
}

pub grows_on : (first second third : Environment) → Grows first second → Grows second third → Grows first third
grows_on first second third one other = record {
  numbers = record {
    identifiers = omega (arith, one.numbers.identifiers, other.numbers.identifiers);
    types = omega (arith, one.numbers.types, other.numbers.types);
    scopes = omega (arith, one.numbers.scopes, other.numbers.scopes);
    functions = omega (arith, one.numbers.functions, other.numbers.functions);
    shapes = omega (arith, one.numbers.shapes, other.numbers.shapes);
    next_block = omega (arith, one.numbers.next_block, other.numbers.next_block);
  };
  functions = other.functions ∙ one.functions;
  environment = λ known. other.environment (one.environment known);
}

-- the numbers of the environment by its tables
module _ (P : Name → Type 0) (env : Environment) where
  abbrev Identifiers : List Name
  Identifiers = flat_map identifier_names env.identifiers

  abbrev Types : List Name
  Types = flat_map type_names env.types

  abbrev Scopes : List Name
  Scopes = flat_map scope_names env.scopes

  record TablesHold : Type 0 where
    identifiers : All P Identifiers
    types : All P Types
    scopes : All P Scopes

  in_tables : All P (Identifiers ++ (Types ++ Scopes)) → TablesHold
  in_tables known =
      let back = All-right P Identifiers (Types ++ Scopes) known in
      record {
        identifiers = All-left P Identifiers (Types ++ Scopes) known;
        types = All-left P Types Scopes back;
        scopes = All-right P Types Scopes back;
      }

  of_tables : TablesHold → All P (Identifiers ++ (Types ++ Scopes))
  of_tables hold = All-append P Identifiers (Types ++ Scopes) hold.identifiers
      (All-append P Types Scopes hold.types hold.scopes)

-- one more entry of a table
more_names : {X : Type 0} (P : Name → Type 0) (f : X → List Name) (xs : List X) (x : X) → All P (flat_map f xs)
    → All P (f x) → All P (flat_map f (xs ++ x ∷ []))
more_names P f xs x all one = subst (All P) (sym (flat_map-append f xs (x ∷ [])))
    (All-append P (flat_map f xs) (f x ++ []) all (All-append P (f x) [] one (All-nil P)))

-- an environment grows if no table is shorter and each table holds such numbers again
record GrowsBy (before after : Environment) : Type 0 where
  identifiers : length before.identifiers ≤ length after.identifiers
  types : length before.types ≤ length after.types
  scopes : length before.scopes ≤ length after.scopes
  next_block : before.next_block ≤ after.next_block
  functions : after.functions ≡ before.functions
  shapes : after.shapes ≡ before.shapes
  hold : TablesHold (IsInTable (lengths after 0)) before → TablesHold (IsInTable (lengths after 0)) after

grows_by : (before after : Environment) → GrowsBy before after → Grows before after
grows_by before after by = record {
  numbers = numbers;
  functions = by.functions;
  environment = λ known. of_tables (IsInTable (lengths after 0)) after
      (by.hold (in_tables (IsInTable (lengths after 0)) before
      (names_stay before after numbers 0 _ known)));
}
  where
    numbers : KeepsNumbers before after
    numbers = record {
      identifiers = by.identifiers;
      types = by.types;
      scopes = by.scopes;
      functions = omega (arith, ap length by.functions);
      shapes = omega (arith, ap length by.shapes);
      next_block = by.next_block;
    }

pub type_grows : (env : Environment) → Grows env (with_type env)
type_grows env = grows_by env (with_type env) (record {
  identifiers = omega arith;
  types = omega (arith, length-append env.types (types.Other ∷ []));
  scopes = omega arith;
  next_block = omega arith;
  functions = refl;
  shapes = refl;
  hold = λ h. record {
    identifiers = h.identifiers;
    types = more_names (IsInTable (lengths (with_type env) 0)) type_names env.types types.Other h.types
        (All-nil (IsInTable (lengths (with_type env) 0)));
    scopes = h.scopes;
  };
})

-- one more identifier, whose numbers are in their tables
module _ (env : Environment) (identifier : Identifier) where
  abbrev with_one : Environment
  with_one = record env { identifiers = env.identifiers ++ identifier ∷ [] }

  one_grows : All (IsInTable (lengths with_one 0)) (identifier_names identifier) → Grows env with_one
  one_grows known = grows_by env with_one (record {
    identifiers = omega (arith, length-append env.identifiers (identifier ∷ []));
    types = omega arith;
    scopes = omega arith;
    next_block = omega arith;
    functions = refl;
    shapes = refl;
    hold = λ h. record {
      identifiers = more_names (IsInTable (lengths with_one 0)) identifier_names env.identifiers identifier
          h.identifiers known;
      types = h.types;
      scopes = h.scopes;
    };
  })

-- an identifier that has a new type of its own
module _ (env : Environment) (span : Option Span) (name : Option IdentifierName) where
  abbrev added : Identifier
  added = record (unnamed (length env.identifiers) (length env.types) span) { name = name }

  abbrev with_new : Environment
  with_new = record (with_type env) { identifiers = env.identifiers ++ added ∷ [] }

  new_grows : Grows env with_new
  new_grows =
      let P = IsInTable (lengths with_new 0) in
      grows_on env (with_type env) with_new (type_grows env) (one_grows (with_type env) added
      (All-cons P (tables.Declarations, length env.identifiers) ((tables.Types, length env.types) ∷ [])
      (omega (arith, length-append env.identifiers (added ∷ [])))
      (All-cons P (tables.Types, length env.types) [] (omega (arith, length-append env.types (types.Other ∷ [])))
      (All-nil P))))

pub identifier_grows : (span : Option Span) (env : Environment) → Grows env (with_identifier span env)
identifier_grows span env = new_grows env span None

pub variable_grows : (span : Option Span) (env : Environment) → Grows env (with_variable span env)
variable_grows span env = new_grows env span (promoted (unnamed (length env.identifiers) (length env.types) span)).name

pub block_grows : (env : Environment) → Grows env (with_block env)
block_grows env = grows_by env (with_block env) (record {
  identifiers = omega arith;
  types = omega arith;
  scopes = omega arith;
  next_block = omega arith;
  functions = refl;
  shapes = refl;
  hold = λ h. record { identifiers = h.identifiers; types = h.types; scopes = h.scopes };
})

-- a scope that gets an early return, whose numbers are in their tables
module _ (P : Name → Type 0) (number : ScopeId) (entry : ReactiveScopeEarlyReturn)
    (value : All P (identifier_name entry.value))
  where
    returning_holds : (scope : ReactiveScope) → All P (scope_name number) → All P (scope_names scope)
        → All P (scope_names (returning number entry scope))
    returning_holds scope own all =
        let dependencies = flat_map dependency_names scope.dependencies in
        let declarations = flat_map declaration_names scope.declarations in
        let reassigned = flat_map identifier_name scope.reassignments in
        let merged = flat_map scope_name scope.merged in
        let early = names_if early_return_names scope.early_return_value in
        let declared = flat_map declaration_names (returning number entry scope).declarations in
        let front = All-left P (dependencies ++ declarations) (reassigned ++ (early ++ merged)) all in
        let back = All-right P (dependencies ++ declarations) (reassigned ++ (early ++ merged)) all in
        All-append P (dependencies ++ declared) (reassigned ++ (identifier_name entry.value ++ merged))
        (All-append P dependencies declared (All-left P dependencies declarations front)
        (more_names P declaration_names scope.declarations _ (All-right P dependencies declarations front)
        (All-append P (identifier_name entry.value) (identifier_name entry.value ++ scope_name number) value
        (All-append P (identifier_name entry.value) (scope_name number) value own))))
        (All-append P reassigned (identifier_name entry.value ++ merged)
        (All-left P reassigned (early ++ merged) back)
        (All-append P (identifier_name entry.value) merged value
        (All-right P early merged (All-right P reassigned (early ++ merged) back))))

    -- the scopes where the one at an index has it
    abbrev set_at : List ReactiveScope → ℕ → List ReactiveScope
    set_at scopes i = set_if scopes i (option_map (returning number entry) (slice_get scopes i))

    set_at-rest : (x : ReactiveScope) (xs : List ReactiveScope) (i : ℕ) → set_at (x ∷ xs) (suc i) ≡ x ∷ set_at xs i
    set_at-rest x xs i = by (option_map (returning number entry) (slice_get xs i))
      where
        by : (found : Option ReactiveScope) → set_if (x ∷ xs) (suc i) found ≡ x ∷ set_if xs i found
        by None = refl
        by (Some scope) = refl

    set_holds : (scopes : List ReactiveScope) (i : ℕ) → (i < length scopes → All P (scope_name number))
        → All P (flat_map scope_names scopes) → All P (flat_map scope_names (set_at scopes i))
    set_holds [] i own all = all
    set_holds (x ∷ xs) zero own all =
        All-append P (scope_names (returning number entry x)) (flat_map scope_names xs)
        (returning_holds x (own (omega arith)) (All-left P (scope_names x) (flat_map scope_names xs) all))
        (All-right P (scope_names x) (flat_map scope_names xs) all)
    set_holds (x ∷ xs) (suc i) own all = subst (λ scopes. All P (flat_map scope_names scopes))
        (sym (set_at-rest x xs i))
        (All-append P (scope_names x) (flat_map scope_names (set_at xs i))
        (All-left P (scope_names x) (flat_map scope_names xs) all)
        (set_holds xs i (λ below. own (omega (arith, below)))
        (All-right P (scope_names x) (flat_map scope_names xs) all)))

same_count : (scopes : List ReactiveScope) (i : ℕ) (found : Option ReactiveScope)
    → length (set_if scopes i found) ≡ length scopes
same_count scopes i None = refl
same_count scopes i (Some scope) = length-set scopes i scope

pub entry_grows : (env : Environment) (early : EarlyReturn) → early.entry.value.0 < length env.identifiers
    → Grows env (record env { scopes = with_entry early env.scopes })
entry_grows env early below =
    let after : Environment = record env { scopes = with_entry early env.scopes } in
    let P = IsInTable (lengths after 0) in
    let same = same_count env.scopes early.scope.0
    (option_map (returning early.scope early.entry) (slice_get env.scopes early.scope.0)) in
    let value = All-cons P (tables.Identifiers, early.entry.value.0) [] below (All-nil P) in
    grows_by env after (record {
      identifiers = omega arith;
      types = omega arith;
      scopes = omega (arith, same);
      next_block = omega arith;
      functions = refl;
      shapes = refl;
      hold = λ h. record {
        identifiers = h.identifiers;
        types = h.types;
        scopes = set_holds P early.scope early.entry value env.scopes early.scope.0
            (λ within. All-cons P (tables.Scopes, early.scope.0) [] (omega (arith, within, same)) (All-nil P)) h.scopes;
      };
    })

-- where an environment grows, numbers of graphs and of trees stay in their tables
module _ (before after : Environment) (grows : Grows before after) where
  functions_known : All (FunctionInTables before) before.functions → All (FunctionInTables after) after.functions
  functions_known known = subst (All (FunctionInTables after)) (sym grows.functions)
      (All-weaker (FunctionInTables before) (FunctionInTables after)
      (λ function. names_stay before after grows.numbers (length function.instructions) (function_names function))
      before.functions known)

  pub graph_known : (graph : HirFunction) → NamesInTables graph before → NamesInTables graph after
  graph_known graph known = record {
    graph = names_stay before after grows.numbers (length graph.instructions) (function_names graph) known.graph;
    functions = functions_known known.functions;
    environment = grows.environment known.environment;
  }

  pub tree_known : (old new : ReactiveFunction) → new ≡ record old { body = new.body }
      → All (IsInTable (lengths after 0)) (names_in new.body) → TreeInTables old before → TreeInTables new after
  tree_known old new header body known = record {
    params = subst (λ params. All (IsInTable (lengths after 0)) (flat_map parameter_names params))
        (sym (ap (λ f. f.params) header)) (names_stay before after grows.numbers 0 _ known.params);
    body = body;
    functions = functions_known known.functions;
    environment = grows.environment known.environment;
  }

-- putting an element where it is changes nothing
set_same : {X : Type 0} (xs : List X) (i : ℕ) (x : X) → Some x ≡ slice_get xs i → slice_set xs i x ≡ xs
set_same [] i x is = refl
set_same (y ∷ xs) zero x is = let same : x ≡ y = cc in ap (λ z. z ∷ xs) same
set_same (y ∷ xs) (suc i) x is = ap (λ ys. y ∷ ys) (set_same xs i x is)

on_err : {A E P : Type 0} (r : Result A E) → P → OnErr r P
on_err (Ok done) p = tt
on_err (Err fault) p = p

-- a scope that is put where it is leaves the environment
pub same_scopes : {A E : Type 0} (r : Result A E) (env : Environment) (i : ℕ) (scope : ReactiveScope)
    (declarations : List DeclarationEntry) → Some scope ≡ slice_get env.scopes i → declarations ≡ scope.declarations
    → OnErr r (record env { scopes = slice_set env.scopes i (record scope { declarations = declarations }) } ≡ env)
same_scopes r env i scope declarations found same = on_err r
    (ap (λ xs. record env { scopes = slice_set env.scopes i (record scope { declarations = xs }) }) same
    ∙ ap (λ xs. record env { scopes = xs }) (set_same env.scopes i scope found))

-- the number of a variable that was added is in the table of an environment that has grown since
pub numbered_below : (span : Option Span) (env after : Environment) → Grows (with_variable span env) after → (n : ℕ)
    → n ≡ length env.identifiers → n < length after.identifiers
numbered_below span env after grows n is =
    let one : length (with_variable span env).identifiers ≡ length env.identifiers + 1 =
    length-append env.identifiers (promoted (unnamed (length env.identifiers) (length env.types) span) ∷ []) in
    omega (arith, is, grows.numbers.identifiers, one)
