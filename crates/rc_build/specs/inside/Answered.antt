-- What `spells` answers where the builder refuses the graph.
use Rattle.std.specs.Prelude.{Option, Some, Result, Ok, Err}
use Rattle.rc_names.specs.Numbers.{BlockId}
use Rattle.rc_hir.specs.Model.{Fault}
use Rattle.rc_hir.specs.declared.fault.Fault.TheVariants as faults
use Rattle.rc_hir.specs.declared.fault.Rule.TheVariants as rules
use Rattle.rc_build.specs.declared.given_tree.Broken.{Broken}

-- the graph with this entry doesn't spell the tree that is given
abbrev pub other_tree_at : BlockId → Broken
other_tree_at entry = record { block = entry; rule = rules.OtherTree }

-- the rule that the graph breaks is returned, and `OtherTree` for a `Todo`; any other fault is passed on
abbrev pub answer_to : Fault → BlockId → Result (Option Broken) Fault
answer_to (faults.Malformed block rule) entry = Ok (Some (record { block = block; rule = rule }))
answer_to (faults.Todo block) entry = Ok (Some (other_tree_at entry))
answer_to fault entry = Err fault
