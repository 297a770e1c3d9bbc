-- A fault of the walk that finds last uses names a number of the tree that is outside its table.
use Rattle.std.proofs.Common.{inl, inr, ℕ, List, [], ◌∷◌, ◌++◌, Option, None, Some, Result, Ok, Err, All, Any}
use Rattle.std.proofs.Common.{IfErr, flat_map, arith, refl, sym, length, slice_get, subst}
use Rattle.std.proofs.lemmas.List.Elements.{All-append}
use Rattle.std.proofs.lemmas.Option.{slice_get_cases}
use Rattle.std.proofs.lemmas.Result.{IfErr-weaker}
use Rattle.rc_hir.specs.EnvironmentNames.{environment_names}
use Rattle.rc_hir.specs.GraphNames.{function_names}
use Rattle.rc_hir.specs.Names.{FunctionInTables, IsInTable, IsOutside, NamesOutsideIn, lengths}
use Rattle.rc_hir.specs.Operands.{context_found, operands}
use Rattle.rc_hir.specs.PartNames.{Name, names_if, parameter_names, place_names, scope_name}
use Rattle.rc_hir.specs.ValueNames.{value_names}
use Rattle.rc_hir.specs.Model.{Environment, Fault, InstructionValue, LoweredFunction, Place}
use Rattle.rc_hir.specs.declared.fault.TableName.TheVariants.{Functions}
use Rattle.rc_hir.specs.declared.instruction.InstructionValue.TheVariants as kinds
use Rattle.rc_names.specs.Numbers.{EvaluationOrder, ScopeId}
use Rattle.rc_tree.proofs.AnyLemmas.{Any-left, Any-right, none_of}
use Rattle.rc_tree.proofs.ReadFollowed.{FollowedParts, block_followed}
use Rattle.rc_tree.proofs.ReadFollowedValues.{FollowedInTurn, FollowedValues, rows_followed, values_followed_if}
use Rattle.rc_tree.specs.Joining.{lists}
use Rattle.rc_tree.specs.Read.{read_block}
use Rattle.rc_tree.specs.Read.Values.{inside_base}
use Rattle.rc_tree.specs.ReadSteps.{ReadSteps, targets_of}
use Rattle.rc_tree.specs.Step.{Walk, bind, each, next_to, perhaps}
use Rattle.rc_tree.specs.TreeNames.{TreeInTables, TreeNamesOutside, names_in, names_of_parts, names_of_values}
use Rattle.rc_tree.specs.Model.{ReactiveFunction}
use Rattle.rc_merge.specs.LastUses.{LastUses}
use Rattle.rc_merge.specs.inside.LastUsesMet.{use_steps, with_use}

module _ (env : Environment) where
  abbrev hooks : ReadSteps LastUses
  hooks = use_steps env

  -- the fault names one of the numbers, which is outside its table
  abbrev Outside : List Name → Fault → Type 0
  Outside names fault = Any (IsOutside (lengths env 0) fault) names

  -- the fault of the walk does, if there is one
  abbrev IsNamed : Walk LastUses → List Name → Type 0
  IsNamed walk names = (s : LastUses) → IfErr (walk s) (λ fault. Outside names fault)

  next : (first second : Walk LastUses) (x y : List Name) → IsNamed first x → IsNamed second y
      → IsNamed (next_to first second) (x ++ y)
  next first second x y h k s = by (first s) (h s)
    where
      by : (r : Result (Unit {0} × LastUses) Fault) → IfErr r (λ fault. Outside x fault)
          → IfErr (bind r (λ a. second a.1)) (λ fault. Outside (x ++ y) fault)
      by (Ok a) none = IfErr-weaker (second a.1) (λ fault. Outside y fault) (λ fault. Outside (x ++ y) fault)
          (λ fault. Any-right (IsOutside (lengths env 0) fault) x y) (k a.1)
      by (Err fault) named = Any-left (IsOutside (lengths env 0) fault) x y named

  to_end : (inside : Walk LastUses) (names : List Name) → IsNamed inside names
      → IsNamed (λ s. bind (inside s) (λ r. Ok (tt, r.1))) names
  to_end inside names h s = by (inside s) (h s)
    where
      by : (r : Result (Unit {0} × LastUses) Fault) → IfErr r (λ fault. Outside names fault)
          → IfErr (bind {B = Unit {0} × LastUses} r (λ r. Ok (tt, r.1))) (λ fault. Outside names fault)
      by (Ok a) none = tt
      by (Err fault) named = named

  in_scope : (scope : ScopeId) (inside : Walk LastUses) (names : List Name) → IsNamed inside names
      → IsNamed (λ s. bind (inside s) (λ r. Ok (tt, r.1))) (scope_name scope ++ names)
  in_scope scope inside names h =
      next (λ s. Ok (tt, s)) (λ s. bind (inside s) (λ r. Ok (tt, r.1))) (scope_name scope) names (λ s. tt)
      (to_end inside names h)

  -- visits of places have no fault
  visits_named : (id : EvaluationOrder) (places : List Place) (names : List Name)
      → IsNamed (each (hooks.visit_place id) places) names
  visits_named id [] names s = tt
  visits_named id (place ∷ places) names s = visits_named id places names (with_use env id place s)

  targets_named : (id : EvaluationOrder) (places : List Place) (names : List Name)
      → IsNamed (each (hooks.visit_lvalue id) places) names
  targets_named id [] names s = tt
  targets_named id (place ∷ places) names s = targets_named id places names s

  visit_named : (id : EvaluationOrder) (place : Option Place) (names : List Name)
      → IsNamed (perhaps (hooks.visit_place id) place) names
  visit_named id None names s = tt
  visit_named id (Some place) names s = tt

  target_named : (id : EvaluationOrder) (place : Option Place) (names : List Name)
      → IsNamed (perhaps (hooks.visit_lvalue id) place) names
  target_named id None names s = tt
  target_named id (Some place) names s = tt

  -- the operands of a value can't be read where its function is outside the table
  context_named : (lowered : LoweredFunction)
      → IfErr (context_found lowered.func (slice_get env.functions lowered.func.0))
      (λ fault. Outside ((Functions, lowered.func.0) ∷ []) fault)
  context_named lowered = elim (slice_get_cases env.functions lowered.func.0).1 [
    | inl found ↦ subst (λ f. IfErr (context_found lowered.func f)
        (λ fault. Outside ((Functions, lowered.func.0) ∷ []) fault)) (sym found.2) tt
    | inr past ↦ subst (λ f. IfErr (context_found lowered.func f)
        (λ fault. Outside ((Functions, lowered.func.0) ∷ []) fault)) (sym past.1)
        (0, (Functions, lowered.func.0), omega arith, refl, (refl, past.0))
  ]

  operands_named : (x : InstructionValue) → IfErr (operands env.functions x) (λ fault. Outside (value_names x) fault)
  operands_named (kinds.ObjectMethod lowered span) = context_named lowered
  operands_named (kinds.FunctionExpression name lowered span) = context_named lowered
  operands_named _ = tt

  base : (id : EvaluationOrder) (x : InstructionValue)
      → IsNamed (inside_base hooks env.functions x id) (value_names x)
  base id x s = by (operands env.functions x) (operands_named x)
    where
      by : (r : Result (List Place) Fault) → IfErr r (λ fault. Outside (value_names x) fault)
          → IfErr (bind r (λ places. each (hooks.visit_place id) places s)) (λ fault. Outside (value_names x) fault)
      by (Ok places) none = visits_named id places (value_names x) s
      by (Err fault) named = named

  in_turn : FollowedInTurn IsNamed lists
  in_turn = record { none = λ s. tt; next = next }

  values_named : FollowedValues hooks IsNamed env.functions names_of_values
  values_named = record {
    in_turn = in_turn;
    operands = base;
    value = λ id x inside held h. to_end inside held h;
    row = λ x inside held h. to_end inside held h;
    target = λ x inside held h.
        let targets = each (hooks.visit_lvalue x.id) (targets_of x.value) in
        next (perhaps (hooks.visit_lvalue x.id) x.lvalue) (next_to targets inside) (names_if place_names x.lvalue) held
        (target_named x.id x.lvalue (names_if place_names x.lvalue))
        (next targets inside [] held (targets_named x.id (targets_of x.value) []) h);
  }

  parts_named : FollowedParts hooks IsNamed env.functions names_of_parts
  parts_named = record {
    in_turn = in_turn;
    row = rows_followed hooks IsNamed env.functions names_of_values values_named;
    value = values_followed_if hooks IsNamed env.functions names_of_values values_named;
    place = λ id x. visit_named id x (names_if place_names x);
    returned = λ id x s. tt;
    jump = λ id target s. tt;
    at = λ id inside held h. h;
    block = λ x inside held h. to_end inside held h;
    scope = λ x inside held h. in_scope x.scope inside held h;
    pruned_scope = λ x inside held h. in_scope x.scope inside held h;
    terminal = λ x inside held h. to_end inside held h;
  }

  -- the fault of the walk names a number of the tree
  pub uses_named : (func : ReactiveFunction) (uses : LastUses)
      → IfErr (read_block hooks env.functions func.body uses) (λ fault. TreeNamesOutside func env fault)
  uses_named func uses = IfErr-weaker (read_block hooks env.functions func.body uses)
      (λ fault. Outside (names_in func.body) fault) (λ fault. TreeNamesOutside func env fault)
      (λ fault named. inl (Any-right (IsOutside (lengths env 0) fault) (flat_map parameter_names func.params)
      (names_in func.body) named))
      (block_followed hooks IsNamed env.functions names_of_parts parts_named func.body uses)

-- where every number of the tree is in its table, no fault names one that isn't
pub no_name_outside : (func : ReactiveFunction) (env : Environment) (fault : Fault) → TreeInTables func env
    → TreeNamesOutside func env fault → ⊥
no_name_outside func env fault known = λ named. by named
  where
    within : (rows : ℕ) (names : List Name) → All (IsInTable (lengths env rows)) names
        → Any (IsOutside (lengths env rows) fault) names → ⊥
    within rows names = none_of (IsInTable (lengths env rows)) (IsOutside (lengths env rows) fault)
        (λ name below out. omega (arith, below, out.1)) names

    by : TreeNamesOutside func env fault → ⊥
    by (inl here) = within 0 _ (All-append (IsInTable (lengths env 0)) (flat_map parameter_names func.params)
        (names_in func.body) known.params known.body) here
    by (inr (inl nested)) = none_of (FunctionInTables env) (NamesOutsideIn env fault)
        (λ function. within (length function.instructions) (function_names function)) env.functions known.functions
        nested
    by (inr (inr last)) = within 0 (environment_names env) known.environment last
