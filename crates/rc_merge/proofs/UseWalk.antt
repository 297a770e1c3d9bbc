-- The walk that finds last uses, as its hooks and its end see it.
use Rattle.std.proofs.Common.{◌≡◌, ◌∙◌, ◌⊎◌, List, [], Option, None, Some, Result, Ok, Err, inl, inr, sym, ap, subst, slice_get}
use Rattle.std.proofs.lemmas.Result.{IfErr-weaker}
use Rattle.std.specs.Prelude.{IfErr}
use Rattle.std.specs.Option.{option_map_or}
use Rattle.rc_hir.specs.Model.{Environment, Fault, HirFunction, Place}
use Rattle.rc_hir.specs.Operands.{context_found}
use Rattle.rc_hir.specs.declared.fault.Fault.TheVariants.{NoMemory}
use Rattle.rc_names.specs.Numbers.{EvaluationOrder, FunctionId}
use Rattle.rc_tree.specs.Read.{read_block}
use Rattle.rc_tree.specs.Step.{IsStep, each}
use Rattle.rc_tree.specs.TreeNames.{TreeInTables, TreeNamesOutside}
use Rattle.rc_tree.specs.Model.{ReactiveBlock, ReactiveFunction}
use Rattle.rc_merge.proofs.MetUsesLemmas.{each_place}
use Rattle.rc_merge.proofs.UseFaults.{no_name_outside, uses_named}
use Rattle.rc_merge.proofs.UsesLemmas.{walk_finds}
use Rattle.rc_merge.specs.LastUses.{LastUses, last_uses_in}
use Rattle.rc_merge.specs.inside.LastUsesMet.{context_of, use_steps, with_places}

-- the places of a context that was found
context_is : (function : FunctionId) (found : Option HirFunction) (places : List Place)
    → context_found function found ≡ Ok places → option_map_or (λ (f : HirFunction). f.context) found [] ≡ places
context_is function None places e = cc
context_is function (Some f) places e = cc

-- a row that names a function visits the places in its context
pub context_visited : (env : Environment) (id : EvaluationOrder) (function : FunctionId) (places : List Place)
    (u u1 : LastUses) → context_found function (slice_get env.functions function.0) ≡ Ok places
    → u1 ≡ with_places env id (context_of env function) u
    → each ((use_steps env).visit_place id) places u ≡ Ok (tt, u1)
context_visited env id function places u u1 found is =
    each_place env id places u
    ∙ ap (λ v. Ok (tt, v)) (ap (λ ps. with_places env id ps u)
    (sym (context_is function (slice_get env.functions function.0) places found)) ∙ sym is)

-- what the walk leaves, from no use
pub finds : (env : Environment) (body : ReactiveBlock) (start left : LastUses) → start ≡ (λ name. None)
    → IsStep (read_block (use_steps env) env.functions body start) (Ok tt) left → left ≡ last_uses_in env body
finds env body start left begins is = walk_finds env body left
    (subst (λ s. IsStep (read_block (use_steps env) env.functions body s) (Ok tt) left) begins is)

-- a fault of a call names a number outside its table, unless it is `NoMemory`
module _ (env : Environment) (func : ReactiveFunction) where
  abbrev Named : {B : Type 0} → Result B Fault → Type 0
  Named result = IfErr result (λ fault. (fault ≡ NoMemory) ⊎ TreeNamesOutside func env fault)

  pub fault_named : {B : Type 0} (start : LastUses) (result : Result B Fault) (fault : Fault) → result ≡ Err fault
      → (fault ≡ NoMemory) ⊎ (read_block (use_steps env) env.functions func.body start ≡ Err fault) → Named result
  fault_named start result fault is cause = subst Named (sym is) (by cause)
    where
      by : (fault ≡ NoMemory) ⊎ (read_block (use_steps env) env.functions func.body start ≡ Err fault)
          → (fault ≡ NoMemory) ⊎ TreeNamesOutside func env fault
      by (inl memory) = inl memory
      by (inr e) = inr (subst (λ r. IfErr r (λ fault. TreeNamesOutside func env fault)) e (uses_named env func start))

  -- which alone is left where every number is in its table
  pub fault_sound : {B : Type 0} (result : Result B Fault) → TreeInTables func env → Named result
      → IfErr result (λ fault. fault ≡ NoMemory)
  fault_sound result known = IfErr-weaker result _ _ (λ fault. by fault)
    where
      by : (fault : Fault) → (fault ≡ NoMemory) ⊎ TreeNamesOutside func env fault → fault ≡ NoMemory
      by fault (inl memory) = memory
      by fault (inr named) = absurd (no_name_outside func env fault known named)
