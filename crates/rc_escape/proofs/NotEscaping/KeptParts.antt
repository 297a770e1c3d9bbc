-- The pass keeps the tree without its scopes, and numbers that are in their tables stay in them.
use Rattle.std.proofs.Common.{◌≡◌, ◌∙◌, Bool, true, false, List, [], ◌∷◌, ◌++◌, All, refl, sym, ap, subst}
use Rattle.std.proofs.lemmas.List.Elements.{All-append}
use Rattle.std.specs.List.{flat_map}
use Rattle.rc_hir.specs.Model.{Environment, InstructionValue}
use Rattle.rc_hir.specs.Names.{IsInTable, lengths}
use Rattle.rc_hir.specs.PartNames.{Name, parameter_names, scope_name}
use Rattle.rc_hir.specs.ValueNames.{value_names}
use Rattle.rc_hir.specs.declared.instruction.InstructionValue.TheVariants as kinds
use Rattle.rc_names.specs.Numbers.{DeclarationId, EvaluationOrder, ScopeId}
use Rattle.rc_runs.proofs.AllLemmas.{All-left, All-right}
use Rattle.rc_runs.proofs.EraseLemmas.{erase_kept, erase_measure, flag_left, row_left, scope_left}
use Rattle.rc_runs.specs.Erase.{erased, erased_statements, erased_value, without_flag}
use Rattle.rc_tree.proofs.AloneLemmas.{alone-Instruction, alone-PrunedScope, alone-Scope, alone-Terminal}
use Rattle.rc_tree.proofs.CollectedKeeps.{LeavesValue, same_row}
use Rattle.rc_tree.proofs.CollectedLemmas.{collected-Base, collected-block}
use Rattle.rc_tree.proofs.JoiningLemmas.{lists_monoid}
use Rattle.rc_tree.proofs.RebuiltKeeps.{RulesKeep}
use Rattle.rc_tree.proofs.RebuiltRelated.{RelatesRules, rebuilt_related, stands}
use Rattle.rc_tree.specs.CollectedValues.{ValueContributions, collected_row, collected_value}
use Rattle.rc_tree.specs.TreeNames.{Names, TreeInTables, names_in, names_in_list, names_in_terminal, names_of_parts}
use Rattle.rc_tree.specs.TreeNames.{names_of_values}
use Rattle.rc_tree.specs.Model.{PrunedReactiveScopeBlock, ReactiveBlock, ReactiveFunction, ReactiveInstruction}
use Rattle.rc_tree.specs.Model.{ReactiveScopeBlock, ReactiveStatement, ReactiveTerminalStatement, ReactiveValue}
use Rattle.rc_tree.specs.declared.statement.ReactiveStatement.TheVariants as reactive
use Rattle.rc_tree.specs.declared.value.ReactiveValue.TheVariants as reactive_values
use Rattle.rc_escape.specs.Outputs.{is_dissolved}
use Rattle.rc_escape.specs.Flags.{flagged, flagged_row, flagged_value}
use Rattle.rc_escape.specs.NotEscaping.{IsRebuiltFor, in_place_of, not_escaping_rules}
use Rattle.rc_escape.specs.Met.{nothing_met}
use Rattle.rc_escape.specs.declared.not_escaping.met.Met.{Met}

module _ (env : Environment) (set : List DeclarationId) where
  -- the flag of an instruction doesn't count where flags are reset
  flag_reset : (met : Met) (x : InstructionValue) → without_flag (flagged env met x) ≡ without_flag x
  unfolding flagged
  flag_reset met (kinds.FinishMemoize manual_memo_id decl pruned span) = refl
  flag_reset met x = refl

  erased_flagged : (met : Met) (x : ReactiveValue) → erased_value (flagged_value env met x) ≡ erased_value x
  erased_flagged met (reactive_values.Instruction x) = flag_left x (flagged env met x) (flag_reset met x)
  erased_flagged met _ = refl

  scope_erased : (dissolved : Bool) (x : ReactiveScopeBlock)
      → erased_statements (in_place_of dissolved x) ≡ erased_statements (reactive.Scope x ∷ [])
  scope_erased true x = sym (scope_left x)
  scope_erased false x = refl

  keep_erased : RulesKeep erase_measure (not_escaping_rules env set)
  keep_erased = record {
    row = λ x met. row_left x (flagged_value env met x.value) (erased_flagged met x.value);
    terminal = λ x met. refl;
    pruned_scope = λ x met. refl;
    scope = λ around x met. scope_erased (is_dissolved env set x.scope) x;
    block = λ xs met. refl;
  }

  -- the body without its scopes stays
  pub erased_kept : (old new : ReactiveFunction) → new ≡ record old { body = new.body }
      → IsRebuiltFor env set old.body new.body → erased new ≡ erased old
  erased_kept old new header is =
      erase_kept (not_escaping_rules env set) keep_erased old new nothing_met is.left header is.rebuilt

  -- an instruction has its numbers whatever its flag is
  flag_names : (met : Met) (x : InstructionValue) → value_names (flagged env met x) ≡ value_names x
  unfolding flagged
  flag_names met (kinds.FinishMemoize manual_memo_id decl pruned span) = refl
  flag_names met x = refl

  -- what is collected of a row stays where the flag adds nothing to what is collected of an instruction
  module _ {A : Type 0} (adds : ValueContributions A) (leaves : LeavesValue adds)
      (same : (met : Met) (id : EvaluationOrder) (x : InstructionValue)
      → adds.instruction id (flagged env met x) ≡ adds.instruction id x) where
    flagged_value_kept : (met : Met) (x : ReactiveValue) (id : EvaluationOrder)
        → collected_value adds (flagged_value env met x) id ≡ collected_value adds x id
    flagged_value_kept met (reactive_values.Instruction x) id =
        collected-Base adds (flagged env met x) id ∙ same met id x ∙ sym (collected-Base adds x id)
    flagged_value_kept met _ id = refl

    pub flagged_row_kept : (met : Met) (x : ReactiveInstruction)
        → collected_row adds (flagged_row env met x) ≡ collected_row adds x
    flagged_row_kept met x =
        same_row adds leaves x (flagged_value env met x.value) (flagged_value_kept met x.value x.id)

  row_names : (met : Met) (x : ReactiveInstruction) → names_of_parts.row (flagged_row env met x) ≡ names_of_parts.row x
  row_names = flagged_row_kept names_of_values (λ x y inside. refl) (λ met id x. flag_names met x)

  module _ (P : Name → Type 0) where
    -- where each number before is such, each number after is
    abbrev Carries : Names → Names → Type 0
    Carries before after = All P before → All P after

    carries_both : (x x1 y y1 : Names) → Carries x y → Carries x1 y1 → Carries (x ++ x1) (y ++ y1)
    carries_both x x1 y y1 f g all = All-append P y y1 (f (All-left P x x1 all)) (g (All-right P x x1 all))

    -- the numbers of a statement that is in the place of a part
    put : (before names : Names) (x : ReactiveStatement) → names_in_list (x ∷ []) ≡ names → Carries before names
        → Carries before (names_in_list (x ∷ []))
    put before names x e f all = subst (All P) (sym e) (f all)

    scope_carries : (dissolved : Bool) (of : ScopeId) (names : Names) (inside : ReactiveBlock)
        → Carries names (names_in inside)
        → Carries (scope_name of ++ names)
        (names_in_list (in_place_of dissolved (record { scope = of; instructions = inside })))
    scope_carries true of names inside f all =
        subst (All P) (collected-block names_of_parts inside) (f (All-right P (scope_name of) names all))
    scope_carries false of names inside f all =
        let x : ReactiveScopeBlock = record { scope = of; instructions = inside } in
        put (scope_name of ++ names) (scope_name of ++ names_in inside) (reactive.Scope x)
        (alone-Scope names_of_parts lists_monoid x)
        (carries_both (scope_name of) names (scope_name of) (names_in inside) (λ it. it) f) all

    related : RelatesRules (not_escaping_rules env set) Carries names_of_parts names_of_parts
    related = record {
      joined = record { nothing = λ all. all; both = λ x x1 y y1 f g. carries_both x x1 y y1 f g };
      value = λ id x all. all;
      place = λ id x all. all;
      returned = λ id x all. all;
      jump = λ target all. all;
      row = λ x met r e.
          let y = flagged_row env met x in
          stands (λ xs. Carries (names_of_parts.row x) (names_in_list xs)) _ _ r e
          (put (names_of_parts.row x) (names_of_parts.row x) (reactive.Instruction y)
          (alone-Instruction names_of_parts lists_monoid y ∙ row_names met x) (λ all. all));
      terminal = λ label x t met r e f.
          let y : ReactiveTerminalStatement = record { terminal = t; label = label } in
          stands (λ xs. Carries x (names_in_list xs)) _ _ r e
          (put x (names_in_terminal t) (reactive.Terminal y) (alone-Terminal names_of_parts lists_monoid y) f);
      scope = λ of x inside around met r e f. stands (λ xs. Carries (scope_name of ++ x) (names_in_list xs)) _ _ r e
          (scope_carries (is_dissolved env set of) of x inside f);
      pruned_scope = λ of x inside met r e f.
          let y : PrunedReactiveScopeBlock = record { scope = of; instructions = inside } in
          stands (λ xs. Carries (scope_name of ++ x) (names_in_list xs)) _ _ r e
          (put (scope_name of ++ x) (scope_name of ++ names_in inside) (reactive.PrunedScope y)
          (alone-PrunedScope names_of_parts lists_monoid y)
          (carries_both (scope_name of) x (scope_name of) (names_in inside) (λ it. it) f));
      block = λ x xs met r e f. stands (λ ys. Carries x (names_in_list ys)) _ _ r e f;
    }

    names_carried : (before after : ReactiveBlock) → IsRebuiltFor env set before after
        → Carries (names_in before) (names_in after)
    names_carried before after is =
        rebuilt_related (not_escaping_rules env set) Carries names_of_parts names_of_parts lists_monoid related before
        nothing_met is.left after is.rebuilt

  -- numbers of the tree that are in their tables stay there
  pub still_known : (old new : ReactiveFunction) → new ≡ record old { body = new.body }
      → IsRebuiltFor env set old.body new.body → TreeInTables old env → TreeInTables new env
  still_known old new header is known = record {
    params = subst (λ params. All (IsInTable (lengths env 0)) (flat_map parameter_names params))
        (sym (ap (λ f. f.params) header)) known.params;
    body = names_carried (IsInTable (lengths env 0)) old.body new.body is known.body;
    functions = known.functions;
    environment = known.environment;
  }
