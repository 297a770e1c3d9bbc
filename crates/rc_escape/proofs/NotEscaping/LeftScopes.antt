-- The scopes whose blocks stay are those that don't give way, and the log has the others, in the order in which the
-- blocks end.
use Rattle.std.proofs.Common.{◌≡◌, ◌∙◌, Bool, true, false, List, [], ◌∷◌, ◌++◌, Result, Ok, Err, append_assoc, map, not}
use Rattle.std.proofs.Common.{Option, None, Some, if◌then◌else◌, refl, sym, ap, subst}
use Rattle.std.proofs.lemmas.List.{append-nil, map-append}
use Rattle.std.proofs.lemmas.List.Elements.{filter-append}
use Rattle.std.specs.List.{filter}
use Rattle.std.specs.Prelude.{IfOk}
use Rattle.rc_hir.specs.Model.{Environment, Fault}
use Rattle.rc_names.specs.Numbers.{DeclarationId, ScopeId}
use Rattle.rc_tree.proofs.AloneLemmas.{alone-Instruction, alone-PrunedScope, alone-Scope, alone-Terminal}
use Rattle.rc_tree.proofs.CollectedLemmas.{collected-block}
use Rattle.rc_tree.proofs.JoiningLemmas.{lists_monoid}
use Rattle.rc_tree.proofs.RebuiltHolds.{HoldsOfRules, and_then, having, rebuilt_holds}
use Rattle.rc_tree.proofs.TerminalShapes.{Leaf, Break, Continue, Return, Throw, collected-leaf, leaf, of_leaf}
use Rattle.rc_tree.specs.Collected.{collected_list, collected_terminal}
use Rattle.rc_tree.specs.Rebuilt.{Rebuilds, Rules}
use Rattle.rc_tree.specs.ScopesIn.{scope_parts, scopes_in}
use Rattle.rc_tree.specs.Step.{bind}
use Rattle.rc_tree.specs.Model.{ReactiveBlock, ReactiveFunction, ReactiveInstruction, ReactiveLabel, ReactiveScopeBlock}
use Rattle.rc_tree.specs.Model.{ReactiveStatement}
use Rattle.rc_tree.specs.declared.statement.ReactiveStatement.TheVariants as reactive
use Rattle.rc_tree.specs.declared.terminal.ReactiveTerminal.{ReactiveTerminal}
use Rattle.rc_escape.specs.Flags.{flagged_row, stored_by_value}
use Rattle.rc_escape.specs.Met.{nothing_met, with_dissolved_if, with_store_if}
use Rattle.rc_escape.specs.NotEscaping.{HasDecidedNotEscaping, IsRebuiltFor, in_place_of, not_escaping_rules}
use Rattle.rc_escape.specs.Outputs.{dissolved_fates, is_dissolved, not_escaping, staying_scopes}
use Rattle.rc_escape.specs.WholeRecord.{AreMemoized}
use Rattle.rc_escape.specs.declared.not_escaping.met.Met.{Met}
use Rattle.rc_escape.specs.declared.not_escaping.met.Store.{Store}

abbrev Scopes : Type 0
Scopes = List ScopeId

-- a leaf has no scope block
leaf_has_none : (shape : Leaf) → of_leaf scope_parts shape ≡ []
leaf_has_none (Break target kind id) = refl
leaf_has_none (Continue target kind id) = refl
leaf_has_none (Return value id) = refl
leaf_has_none (Throw value id) = refl

-- a store decides of no scope block
same_log : (store : Option Store) (met : Met) → (with_store_if store met).log ≡ met.log
same_log None met = refl
same_log (Some store) met = refl

module _ (env : Environment) (set : List DeclarationId) where
  abbrev rules : Rules Met
  rules = not_escaping_rules env set

  -- of a part with these scopes that is rebuilt from a state: the log after it, and the scopes that it has then
  unfoldable Leaves : Scopes → Met → Result (Met × Scopes) Fault → Type 0
  Leaves scopes met (Ok r) =
      (r.0.log ≡ met.log ++ dissolved_fates env set scopes) × (r.1 ≡ staying_scopes env set scopes)
  Leaves scopes met (Err fault) = Unit {0}

  -- a part without a scope block
  none_left : (met after : Met) (scopes : Scopes) → after.log ≡ met.log → scopes ≡ [] → Leaves [] met (Ok (after, scopes))
  unfolding Leaves
  none_left met after scopes same none = (same ∙ sym (append-nil met.log), none)

  fates-append : (xs ys : Scopes)
      → dissolved_fates env set (xs ++ ys) ≡ dissolved_fates env set xs ++ dissolved_fates env set ys
  fates-append xs ys = ap (map not_escaping) (filter-append (is_dissolved env set) xs ys)
      ∙ map-append not_escaping (filter (is_dissolved env set) xs) (filter (is_dissolved env set) ys)

  both_leave : (x y : Scopes) (met : Met) (first : Result (Met × Scopes) Fault) (next : Rebuilds Met Scopes)
      → Leaves x met first → IfOk first (λ c. Leaves y c.0 (next c.0))
      → Leaves (x ++ y) met (and_then (λ a b. a ++ b) first next)
  unfolding Leaves
  both_leave x y met (Err fault) next h k = tt
  both_leave x y met (Ok c) next h k = by (next c.0) k
    where
      by : (e : Result (Met × Scopes) Fault) → Leaves y c.0 e → Leaves (x ++ y) met (having (λ b. c.1 ++ b) e)
      by (Err fault) j = tt
      by (Ok d) j = (
        j.0 ∙ ap (λ log. log ++ dissolved_fates env set y) h.0
            ∙ append_assoc met.log (dissolved_fates env set x) (dissolved_fates env set y)
            ∙ ap (λ log. met.log ++ log) (sym (fates-append x y)),
        (λ i. h.1 i ++ j.1 i) ∙ sym (filter-append (λ scope. not (is_dissolved env set scope)) x y),
      )

  row_leaves : (x : ReactiveInstruction) (met : Met)
      → Leaves [] met (having (collected_list scope_parts) (rules.row x met))
  row_leaves x met = none_left met _ _ (same_log (stored_by_value env x.lvalue x.value) met)
      (alone-Instruction scope_parts lists_monoid (flagged_row env met x))

  -- a part that stays around its inside
  kept_around : {X : Type 0} (has : X → Scopes) (make : X → ReactiveStatement)
      → ((y : X) → collected_list scope_parts (make y ∷ []) ≡ has y) → (x : Scopes) (met : Met)
      (inside : Result (Met × X) Fault) → Leaves x met (having has inside)
      → Leaves x met (having (collected_list scope_parts) (bind inside (λ c. Ok (c.0, make c.1 ∷ []))))
  unfolding Leaves
  kept_around has make is x met (Err fault) h = tt
  kept_around has make is x met (Ok c) h = (h.0, is c.1 ∙ h.1)

  terminal_leaves : (x : Scopes) (label : Option ReactiveLabel) (met : Met)
      (inside : Result (Met × ReactiveTerminal) Fault) → Leaves x met (having (collected_terminal scope_parts) inside)
      → Leaves x met (having (collected_list scope_parts)
      (bind inside (λ c. rules.terminal (record { terminal = c.1; label = label }) c.0)))
  terminal_leaves x label met inside = kept_around (collected_terminal scope_parts)
      (λ t. reactive.Terminal (record { terminal = t; label = label }))
      (λ t. alone-Terminal scope_parts lists_monoid (record { terminal = t; label = label })) x met inside

  leaf_leaves : (shape : Leaf) (label : Option ReactiveLabel) (met : Met) → Leaves (of_leaf scope_parts shape) met
      (having (collected_list scope_parts) (rules.terminal (record { terminal = leaf shape; label = label }) met))
  leaf_leaves shape label met = terminal_leaves (of_leaf scope_parts shape) label met (Ok (met, leaf shape))
      (subst (λ scopes. Leaves scopes met (Ok (met, collected_terminal scope_parts (leaf shape))))
      (sym (leaf_has_none shape))
      (none_left met met _ refl (collected-leaf scope_parts shape ∙ leaf_has_none shape)))

  -- the scope of a block that is left, and what the block's replacement has
  abbrev own_if : Bool → ScopeId → Scopes
  own_if dissolved scope = if dissolved then [] else scope ∷ []

  replaced : (dissolved : Bool) (block : ReactiveScopeBlock)
      → collected_list scope_parts (in_place_of dissolved block)
      ≡ scopes_in block.instructions ++ own_if dissolved block.scope
  replaced true block = sym (collected-block scope_parts block.instructions)
      ∙ sym (append-nil (scopes_in block.instructions))
  replaced false block = alone-Scope scope_parts lists_monoid block

  own_leaves : (of : ScopeId) (met : Met) → Leaves (of ∷ []) met
      (Ok (with_dissolved_if (is_dissolved env set of) of met, own_if (is_dissolved env set of) of))
  unfolding Leaves
  own_leaves of met = by (is_dissolved env set of)
    where
      by : (dissolved : Bool)
          → ((with_dissolved_if dissolved of met).log ≡ met.log ++ map not_escaping (if dissolved then of ∷ [] else []))
          × (own_if dissolved of ≡ (if not dissolved then of ∷ [] else []))
      by true = (refl, refl)
      by false = (sym (append-nil met.log), refl)

  scope_leaves : (x : Scopes) (of : ScopeId) (met : Met) (inside : Result (Met × ReactiveBlock) Fault)
      → Leaves x met (having scopes_in inside) → Leaves (x ++ of ∷ []) met (having (collected_list scope_parts)
      (bind inside (λ c. rules.scope met (record { scope = of; instructions = c.1 }) c.0)))
  unfolding Leaves
  scope_leaves x of met (Err fault) h = tt
  scope_leaves x of met (Ok c) h =
      let dissolved = is_dissolved env set of in
      subst (λ scopes. Leaves (x ++ of ∷ []) met (Ok (with_dissolved_if dissolved of c.0, scopes)))
      (sym (replaced dissolved (record { scope = of; instructions = c.1 })))
      (both_leave x (of ∷ []) met (Ok (c.0, scopes_in c.1))
      (λ met. Ok (with_dissolved_if dissolved of met, own_if dissolved of)) h (own_leaves of c.0))

  block_leaves : (x : Scopes) (met : Met) (inside : Result (Met × List ReactiveStatement) Fault)
      → Leaves x met (having (collected_list scope_parts) inside)
      → Leaves x met (having (collected_list scope_parts) (bind inside (λ c. rules.block c.1 c.0)))
  unfolding Leaves
  block_leaves x met (Err fault) h = tt
  block_leaves x met (Ok c) h = h

  all_leave : HoldsOfRules rules Leaves scope_parts scope_parts
  all_leave = record {
    nothing = λ met. none_left met met [] refl refl;
    both = both_leave;
    value = λ id x met. none_left met met [] refl refl;
    place = λ id x met. none_left met met [] refl refl;
    row = row_leaves;
    leaf = leaf_leaves;
    terminal = λ x label met inside deep. terminal_leaves x label met inside;
    scope = scope_leaves;
    pruned_scope = λ x of met. kept_around scopes_in
        (λ y. reactive.PrunedScope (record { scope = of; instructions = y }))
        (λ y. alone-PrunedScope scope_parts lists_monoid (record { scope = of; instructions = y })) x met;
    block = block_leaves;
  }

  -- the log and the scopes that a rebuilt body has
  pub scopes_left : (before after : ReactiveBlock) (is : IsRebuiltFor env set before after)
      → (is.left.log ≡ dissolved_fates env set (scopes_in before))
      × (scopes_in after ≡ staying_scopes env set (scopes_in before))
  unfolding Leaves
  scopes_left before after is = subst (λ e. Leaves (scopes_in before) nothing_met (having scopes_in e)) is.rebuilt
      (rebuilt_holds rules Leaves scope_parts scope_parts lists_monoid all_leave before nothing_met)

-- a body that is rebuilt for the memoized names is the one without the blocks that compute none of them, by these names
abbrev pub decided_not_escaping : (env : Environment) (func : ReactiveFunction) (set : List DeclarationId)
    (after : ReactiveBlock) → AreMemoized env func set → (is : IsRebuiltFor env set func.body after)
    → HasDecidedNotEscaping env func after is.left.log
decided_not_escaping env func set after memoized is =
    let scopes = scopes_left env set func.body after is in
    record {
      without = record { set = set; memoized = memoized; rebuilt = is; left = scopes.1 };
      told = scopes.0;
    }
