-- Parts that may end in a fault, and numbers of which the fault then names one that is outside its table.
use Rattle.std.proofs.Common.{◌≡◌, ◌⊎◌, inl, inr, ℕ, List, [], ◌∷◌, ◌++◌, length, arith, sym, subst}
use Rattle.std.specs.List.{All, Any, flat_map}
use Rattle.std.proofs.lemmas.List.Elements.{All-append}
use Rattle.rc_hir.specs.Names.{FunctionInTables, IsInTable, IsOutside, lengths, NamesOutsideIn}
use Rattle.rc_hir.specs.Names.{NamesOutsideInEnvironment}
use Rattle.rc_hir.specs.EnvironmentNames.{environment_names}
use Rattle.rc_hir.specs.GraphNames.{function_names}
use Rattle.rc_hir.specs.PartNames.{Name, parameter_names}
use Rattle.rc_hir.specs.Model.{Environment, Fault}
use Rattle.rc_tree.specs.TreeNames.{TreeInTables, TreeNamesOutside, names_in}
use Rattle.rc_tree.specs.Model.{ReactiveFunction}
use Rattle.rc_tree.proofs.AnyLemmas.{Any-cases, Any-left, Any-one, Any-right, none_of}

module _ (env : Environment) (fault : Fault) where
  -- the fault names one of the numbers, or one of a function of the table or of the environment, which is outside its
  -- table
  abbrev pub IsNamed : List Name → Type 0
  IsNamed names =
      Any (IsOutside (lengths env 0) fault) names
      ⊎ (Any (NamesOutsideIn env fault) env.functions ⊎ NamesOutsideInEnvironment env fault)

  -- where one of the parts ends in the fault, the fault names one of the numbers
  pub record Covers {X : Type 0} (Ends : X → Type 0) (names : List Name) (parts : List X) : Type 0 where
    pub named : Any Ends parts → IsNamed names

  named_left : (names others : List Name) → IsNamed names → IsNamed (names ++ others)
  named_left names others (inl here) = inl (Any-left (IsOutside (lengths env 0) fault) names others here)
  named_left names others (inr elsewhere) = inr elsewhere

  named_right : (names others : List Name) → IsNamed others → IsNamed (names ++ others)
  named_right names others (inl here) = inl (Any-right (IsOutside (lengths env 0) fault) names others here)
  named_right names others (inr elsewhere) = inr elsewhere

module _ {env : Environment} {fault : Fault} {X : Type 0} {Ends : X → Type 0} where
  -- no parts
  pub none : {names : List Name} → Covers env fault Ends names []
  none = record { named = λ some. absurd (omega (arith, some.2)) }

  -- one part
  pub alone : {names : List Name} (part : X) → (Ends part → IsNamed env fault names) →
      Covers env fault Ends names (part ∷ [])
  alone part named = record { named = λ some. named (Any-one Ends part some) }

  -- some parts, then others
  pub both : {names others : List Name} {first second : List X} → Covers env fault Ends names first →
      Covers env fault Ends others second → Covers env fault Ends (names ++ others) (first ++ second)
  both {names = names} {others = others} {first = first} {second = second} one other = record {
    named = λ some. by (Any-cases Ends first second some);
  }
    where
      by : Any Ends first ⊎ Any Ends second → IsNamed env fault (names ++ others)
      by (inl here) = named_left env fault names others (one.named here)
      by (inr later) = named_right env fault names others (other.named later)

  -- numbers that no part needs
  pub behind : (names : List Name) {others : List Name} {parts : List X} → Covers env fault Ends others parts →
      Covers env fault Ends (names ++ others) parts
  behind names {others = others} part = record {
    named = λ some. named_right env fault names others (part.named some);
  }

  -- the parts of each element of a list
  pub each : {Y : Type 0} (names : Y → List Name) (parts : Y → List X) →
      ((y : Y) → Covers env fault Ends (names y) (parts y)) →
      (ys : List Y) → Covers env fault Ends (flat_map names ys) (flat_map parts ys)
  each names parts covers [] = none
  each names parts covers (y ∷ ys) = both (covers y) (each names parts covers ys)

  -- a form has the facts of its parts
  pub by_form : {names others : List Name} {whole parts : List X} → names ≡ others → whole ≡ parts →
      Covers env fault Ends others parts → Covers env fault Ends names whole
  by_form e f covered = record {
    named = λ some. subst (IsNamed env fault) (sym e) (covered.named (subst (Any Ends) f some));
  }

-- a number of the body is one of the tree
pub of_body : (func : ReactiveFunction) (env : Environment) (fault : Fault) → IsNamed env fault (names_in func.body) →
    TreeNamesOutside func env fault
of_body func env fault = named_right env fault (flat_map parameter_names func.params) (names_in func.body)

-- where every number of the tree is in its table, no fault names one that isn't
pub no_name_outside : (func : ReactiveFunction) (env : Environment) (fault : Fault) → TreeInTables func env →
    TreeNamesOutside func env fault → ⊥
no_name_outside func env fault known = λ named. by named
  where
    within : (rows : ℕ) (names : List Name) → All (IsInTable (lengths env rows)) names →
        Any (IsOutside (lengths env rows) fault) names → ⊥
    within rows names = none_of (IsInTable (lengths env rows)) (IsOutside (lengths env rows) fault)
        (λ name below out. omega (arith, below, out.1)) names

    by : TreeNamesOutside func env fault → ⊥
    by (inl here) = within 0 _ (All-append (IsInTable (lengths env 0)) (flat_map parameter_names func.params)
        (names_in func.body) known.params known.body) here
    by (inr (inl nested)) = none_of (FunctionInTables env) (NamesOutsideIn env fault)
        (λ function. within (length function.instructions) (function_names function)) env.functions known.functions
        nested
    by (inr (inr last)) = within 0 (environment_names env) known.environment last
