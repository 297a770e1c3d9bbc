use Rattle.std.proofs.Common.{Result, drop}
use Rattle.std.specs.List.{flat_map}
use Rattle.rc_hir.specs.Names.{IsCheckOf}
use Rattle.rc_hir.specs.Model.{Fault}
use Rattle.rc_hir.proofs.names.parts.check_each.Given as goal

-- the result for the parts that are left is the result for all
abbrev pub invariant-loop-part : goal.invariant-loop-part
invariant-loop-part g l = (answer : Result (Unit {0}) Fault)
    → IsCheckOf l.tables (flat_map g.T.HoldsNames.names (drop l.part-index l.parts)) answer
    → IsCheckOf l.tables (flat_map g.T.HoldsNames.names l.parts) answer
