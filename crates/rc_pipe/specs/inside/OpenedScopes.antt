-- Which blocks of a graph open a scope.
use Rattle.std.specs.Prelude.{◌≡◌, true, All, is_none}
use Rattle.rc_hir.specs.Model.{HirFunction}
use Rattle.rc_runs.specs.Spelled.{scope_named}

-- no block of the graph opens a scope, kept or pruned
abbrev pub OpensNoScope : HirFunction → Type 0
OpensNoScope hir = All (λ entry. is_none (scope_named entry.1.terminal) ≡ true) hir.body.blocks
