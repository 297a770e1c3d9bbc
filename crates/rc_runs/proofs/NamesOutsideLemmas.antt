-- If every number is in its table, no fault names one that is outside.
use Rattle.std.proofs.Common.{inl, inr, ℕ, List, length, subst, arith}
use Rattle.std.specs.List.{All, Any}
use Rattle.rc_hir.specs.Model.{Fault, HirFunction, Environment}
use Rattle.rc_hir.specs.EnvironmentNames.{environment_names}
use Rattle.rc_hir.specs.GraphNames.{Name, function_names}
use Rattle.rc_hir.specs.Names.{NamesInTables, NamesOutside, NamesOutsideIn, IsInTable, IsOutside, lengths}
use Rattle.rc_hir.specs.Names.{FunctionInTables}

module _ {X : Type 0} (P : X → Type 0) where
  -- if all elements have a property, none has one that excludes it
  none_outside : (Q : X → Type 0) → ((x : X) → P x → Q x → ⊥) → (xs : List X) → All P xs → Any Q xs → ⊥
  none_outside Q contrary xs all some = contrary some.1 (subst P some.3 (all some.0 some.1 some.2)) some.4

-- numbers that are in their tables aren't outside
pub no_name_outside : (hir : HirFunction) (env : Environment) → NamesInTables hir env
    → (fault : Fault) → NamesOutside hir env fault → ⊥
no_name_outside hir env names fault = outside
  where
    within : (rows : ℕ) (some_names : List Name) → All (IsInTable (lengths env rows)) some_names
        → Any (IsOutside (lengths env rows) fault) some_names → ⊥
    within rows some_names all some = none_outside (IsInTable (lengths env rows)) (IsOutside (lengths env rows) fault)
        (λ name below out. omega (arith, below, out.1)) some_names all some

    outside : NamesOutside hir env fault → ⊥
    outside (inl here) = within (length hir.instructions) (function_names hir) names.graph here
    outside (inr (inl nested)) =
        none_outside (FunctionInTables env) (NamesOutsideIn env fault)
        (λ function all some. within (length function.instructions) (function_names function) all some) env.functions
        names.functions nested
    outside (inr (inr table_itself)) = within 0 (environment_names env) names.environment table_itself
