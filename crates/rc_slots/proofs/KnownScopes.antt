-- In a tree whose numbers are in their tables, each scope block has a scope of the table.
use Rattle.std.proofs.Common.{◌≡◌, ◌∙◌, ◌<◌, ◌⊎◌, inl, inr, ℕ, false, List, [], ◌∷◌, ◌++◌, None, Some, All}
use Rattle.std.proofs.Common.{ap, arith, length, refl}
use Rattle.std.specs.Prelude.{slice_get, cond}
use Rattle.std.specs.List.{find}
use Rattle.std.specs.Option.{is_none, option_or}
use Rattle.std.proofs.lemmas.List.Folds.{find-append}
use Rattle.std.proofs.lemmas.Option.{slice_get_cases}
use Rattle.rc_hir.specs.Model.{Environment}
use Rattle.rc_hir.specs.Names.{IsInTable, lengths}
use Rattle.rc_hir.specs.PartNames.{Name, scope_name}
use Rattle.rc_hir.specs.declared.fault.TableName.TheVariants.{Scopes}
use Rattle.rc_names.specs.Numbers.{ScopeId, to_id}
use Rattle.rc_runs.proofs.AllLemmas.{All-left, All-right}
use Rattle.rc_slots.specs.ScopeBlocks.{entered_parts, scopes_entered}
use Rattle.rc_slots.specs.Slots.{first_outside}
use Rattle.rc_tree.proofs.CollectedRelated.{RelatedParts, collected_related}
use Rattle.rc_tree.specs.Model.{ReactiveBlock, ReactiveFunction}
use Rattle.rc_tree.specs.TreeNames.{TreeInTables, names_in, names_of_parts}

module _ (env : Environment) where
  -- where these numbers are in their tables, so are these scopes
  abbrev Covers : List Name → List ScopeId → Type 0
  Covers names scopes = All (IsInTable (lengths env 0)) names → first_outside env scopes ≡ None

  both : (names more : List Name) (scopes others : List ScopeId) → Covers names scopes → Covers more others
      → Covers (names ++ more) (scopes ++ others)
  both names more scopes others one other all =
      find-append (λ scope. is_none (slice_get env.scopes scope.0)) scopes others
      ∙ ap (λ found. option_or found (first_outside env others)) (one (All-left (IsInTable (lengths env 0)) names more all))
      ∙ other (All-right (IsInTable (lengths env 0)) names more all)

  in_table : (scope : ScopeId) → scope.0 < length env.scopes → is_none (slice_get env.scopes scope.0) ≡ false
  in_table scope below = elim (slice_get_cases env.scopes scope.0).1 [
    | inl at ↦ ap is_none at.2
    | inr past ↦ absurd (let no : ⊥ = omega (arith, below, past.0) in no)
  ]

  -- a scope block's own scope is in the table
  entered : (scope : ScopeId) (names : List Name) (scopes : List ScopeId) → Covers names scopes
      → Covers (scope_name scope ++ names) (scope ∷ scopes)
  entered scope names scopes inside all =
      ap (λ outside. cond outside (Some scope) (first_outside env scopes))
      (in_table scope (all 0 (Scopes, 0) (omega arith)))
      ∙ inside (All-right (IsInTable (lengths env 0)) (scope_name scope) names all)

  parts : RelatedParts Covers names_of_parts entered_parts
  parts = record {
    joined = record { nothing = λ all. refl; both = both };
    row = λ x all. refl;
    value = λ id x all. refl;
    place = λ id x all. refl;
    returned = λ id x all. refl;
    jump = λ target all. refl;
    label = λ label all. refl;
    scope = entered;
    pruned_scope = λ scope names scopes inside all. inside (All-right (IsInTable (lengths env 0)) (scope_name scope) names all);
  }

  pub none_outside : (body : ReactiveBlock) → All (IsInTable (lengths env 0)) (names_in body)
      → first_outside env (scopes_entered body) ≡ None
  none_outside body = collected_related Covers names_of_parts entered_parts parts body

-- so no scope block has a bad name
pub no_bad_name : {func : ReactiveFunction} {env : Environment} (index : ℕ) → TreeInTables func env
    → first_outside env (scopes_entered func.body) ≡ Some (to_id index) → ⊥
no_bad_name {func} {env} index known outside =
    let none = none_outside env func.body known.body in let bad : ⊥ = cc in bad
