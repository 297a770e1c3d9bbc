use Rattle.std.proofs.Common.{Result, drop}
use Rattle.std.specs.List.{flat_map}
use Rattle.rc_hir.specs.PartNames.{under_key}
use Rattle.rc_hir.specs.Names.{IsCheckOf}
use Rattle.rc_hir.specs.Model.{Fault}
use Rattle.rc_hir.proofs.names.parts.KeyedHoldsNames.check.Given as goal

-- the result for the values that are left is the result for all
abbrev pub invariant-loop-i : goal.invariant-loop-i
invariant-loop-i g l = (answer : Result (Unit {0}) Fault)
    → IsCheckOf l.tables (flat_map (under_key g.V.HoldsNames.names) (drop l.i l.self)) answer
    → IsCheckOf l.tables (flat_map (under_key g.V.HoldsNames.names) l.self) answer
