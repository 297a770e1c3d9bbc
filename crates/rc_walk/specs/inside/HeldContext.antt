-- The read walk of the context of a nested function.
use Rattle.std.specs.Prelude.{List, slice_get}
use Rattle.rc_hir.specs.Operands.{context_found}
use Rattle.rc_hir.specs.Model.{HirFunction}
use Rattle.rc_names.specs.Numbers.{FunctionId}
use Rattle.rc_tree.specs.Step.{bind, each}
use Rattle.rc_tree.specs.Read.Values.{WalkAt}
use Rattle.rc_tree.specs.ReadSteps.{ReadSteps}

-- the places of the context of the function with that number, as operands; a number outside the table is a bad name
abbrev pub inside_held : {S : Type 0} → ReadSteps S → List HirFunction → FunctionId → WalkAt S
inside_held v functions function id s =
    bind (context_found function (slice_get functions function.0)) (λ places. each (v.visit_place id) places s)
