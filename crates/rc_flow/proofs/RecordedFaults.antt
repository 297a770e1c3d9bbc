-- A fault of the collecting steps names a number of the tree that is outside its table.
use Rattle.std.proofs.Common.{inl, inr, ℕ, List, [], ◌∷◌, ◌++◌, Result, Ok, Err, All, Any}
use Rattle.std.proofs.Common.{IfErr, flat_map, arith, refl, sym, length, slice_get, subst}
use Rattle.std.proofs.lemmas.List.Elements.{All-append}
use Rattle.std.proofs.lemmas.Option.{slice_get_cases}
use Rattle.std.proofs.lemmas.Result.{IfErr-weaker}
use Rattle.rc_hir.specs.EnvironmentNames.{environment_names}
use Rattle.rc_hir.specs.GraphNames.{function_names}
use Rattle.rc_hir.specs.Names.{FunctionInTables, IsInTable, IsOutside, NamesOutsideIn, lengths}
use Rattle.rc_hir.specs.Operands.{context_found, operands}
use Rattle.rc_hir.specs.PartNames.{Name, parameter_names, scope_name}
use Rattle.rc_hir.specs.ValueNames.{value_names}
use Rattle.rc_hir.specs.Model.{Environment, Fault, InstructionValue, LoweredFunction, Place}
use Rattle.rc_hir.specs.declared.fault.TableName.TheVariants.{Functions}
use Rattle.rc_hir.specs.declared.instruction.InstructionValue.TheVariants as kinds
use Rattle.rc_names.specs.Numbers.{ScopeId}
use Rattle.rc_tree.proofs.AnyLemmas.{Any-left, Any-right, none_of}
use Rattle.rc_tree.proofs.CollectedRelated.{RelatedParts, RelatedValues, collected_related, rows_related}
use Rattle.rc_tree.proofs.CollectedRelated.{values_related_if}
use Rattle.rc_tree.specs.Step.{bind}
use Rattle.rc_tree.specs.TreeNames.{TreeInTables, TreeNamesOutside, names_in, names_of_parts, names_of_values}
use Rattle.rc_tree.specs.Model.{ReactiveFunction}
use Rattle.rc_flow.specs.Collected.{Recorded, joined, marked, place_steps, pruned_scope_steps, recorded_parts}
use Rattle.rc_flow.specs.Collected.{recorded_steps, recorded_values, written}
use Rattle.rc_flow.specs.declared.step.Step.{Step}

module _ (env : Environment) where
  -- the fault names one of the numbers, which is outside its table
  abbrev Outside : List Name → Fault → Type 0
  Outside names fault = Any (IsOutside (lengths env 0) fault) names

  -- the fault of the steps does, if there is one
  abbrev IsNamed : Recorded → List Name → Type 0
  IsNamed recorded names = IfErr recorded (λ fault. Outside names fault)

  both : (first second : Recorded) (x y : List Name) → IsNamed first x → IsNamed second y
      → IsNamed (joined first second) (x ++ y)
  both (Ok steps) (Ok more) x y none other = tt
  both (Ok steps) (Err fault) x y none named = Any-right (IsOutside (lengths env 0) fault) x y named
  both (Err fault) second x y named other = Any-left (IsOutside (lengths env 0) fault) x y named

  -- steps without a fault, before others and after them
  in_front : (steps : List Step) (last : Recorded) (names : List Name) → IsNamed last names
      → IsNamed (joined (Ok steps) last) names
  in_front steps (Ok more) names none = tt
  in_front steps (Err fault) names named = named

  behind : (first : Recorded) (steps : List Step) (names : List Name) → IsNamed first names
      → IsNamed (joined first (Ok steps)) names
  behind (Ok more) steps names none = tt
  behind (Err fault) steps names named = named

  in_scope : (scope : ScopeId) (inside : Recorded) (names : List Name) → IsNamed inside names
      → IsNamed inside (scope_name scope ++ names)
  in_scope scope inside names =
      IfErr-weaker inside (λ fault. Outside names fault) (λ fault. Outside (scope_name scope ++ names) fault)
      (λ fault. Any-right (IsOutside (lengths env 0) fault) (scope_name scope) names)

  -- the operands of a value can't be read where its function is outside the table
  context_named : (lowered : LoweredFunction)
      → IfErr (context_found lowered.func (slice_get env.functions lowered.func.0))
      (λ fault. Outside ((Functions, lowered.func.0) ∷ []) fault)
  context_named lowered = elim (slice_get_cases env.functions lowered.func.0).1 [
    | inl found ↦ subst (λ f. IfErr (context_found lowered.func f)
        (λ fault. Outside ((Functions, lowered.func.0) ∷ []) fault)) (sym found.2) tt
    | inr past ↦ subst (λ f. IfErr (context_found lowered.func f)
        (λ fault. Outside ((Functions, lowered.func.0) ∷ []) fault)) (sym past.1)
        (0, (Functions, lowered.func.0), omega arith, refl, (refl, past.0))
  ]

  operands_named : (x : InstructionValue) → IfErr (operands env.functions x) (λ fault. Outside (value_names x) fault)
  operands_named (kinds.ObjectMethod lowered span) = context_named lowered
  operands_named (kinds.FunctionExpression name lowered span) = context_named lowered
  operands_named _ = tt

  read_named : (read : Result (List Place) Fault) (names : List Name) → IfErr read (λ fault. Outside names fault)
      → IsNamed (bind read marked) names
  read_named (Ok places) names none = tt
  read_named (Err fault) names named = named

  values_named : RelatedValues IsNamed (recorded_values env) names_of_values
  values_named = record {
    joined = record { nothing = tt; both = both };
    instruction = λ id x. read_named (operands env.functions x) (value_names x) (operands_named x);
    target = λ id x. tt;
    row = λ x inside names. in_front (flat_map place_steps (written x)) inside names;
  }

  parts_named : RelatedParts IsNamed (recorded_parts env) names_of_parts
  parts_named = record {
    joined = values_named.joined;
    row = rows_related IsNamed (recorded_values env) names_of_values values_named;
    value = values_related_if IsNamed (recorded_values env) names_of_values values_named;
    place = λ id x. tt;
    returned = λ id x. tt;
    jump = λ target. tt;
    label = λ label. tt;
    scope = in_scope;
    pruned_scope = λ scope inside names named. in_scope scope (joined inside (Ok (pruned_scope_steps env scope))) names
        (behind inside (pruned_scope_steps env scope) names named);
  }

  -- the fault of the collecting steps names a number of the tree
  pub recorded_named : (func : ReactiveFunction)
      → IfErr (recorded_steps env func.body) (λ fault. TreeNamesOutside func env fault)
  recorded_named func =
      IfErr-weaker (recorded_steps env func.body) (λ fault. Outside (names_in func.body) fault)
      (λ fault. TreeNamesOutside func env fault)
      (λ fault named. inl (Any-right (IsOutside (lengths env 0) fault) (flat_map parameter_names func.params)
      (names_in func.body) named))
      (collected_related IsNamed (recorded_parts env) names_of_parts parts_named func.body)

-- where every number of the tree is in its table, no fault names one that isn't
pub no_name_outside : (func : ReactiveFunction) (env : Environment) (fault : Fault) → TreeInTables func env
    → TreeNamesOutside func env fault → ⊥
no_name_outside func env fault known = λ named. by named
  where
    within : (rows : ℕ) (names : List Name) → All (IsInTable (lengths env rows)) names
        → Any (IsOutside (lengths env rows) fault) names → ⊥
    within rows names = none_of (IsInTable (lengths env rows)) (IsOutside (lengths env rows) fault)
        (λ name below out. omega (arith, below, out.1)) names

    by : TreeNamesOutside func env fault → ⊥
    by (inl here) = within 0 _ (All-append (IsInTable (lengths env 0)) (flat_map parameter_names func.params)
        (names_in func.body) known.params known.body) here
    by (inr (inl nested)) = none_of (FunctionInTables env) (NamesOutsideIn env fault)
        (λ function. within (length function.instructions) (function_names function)) env.functions known.functions
        nested
    by (inr (inr last)) = within 0 (environment_names env) known.environment last
