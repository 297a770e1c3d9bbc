use Rattle.std.proofs.Common.{◌≡◌, ◌++◌, drop}
use Rattle.std.specs.List.{flat_map}
use Rattle.rc_flow.specs.Collected.{declaration_steps}
use Rattle.rc_flow.specs.inside.Told.{steps_told}
use Rattle.rc_flow.proofs.collect_visitor.CollectVisitor.add_declarations.Given as goal

-- the steps added so far and those still to come are all the steps
abbrev pub invariant-loop-entry : goal.invariant-loop-entry
invariant-loop-entry l =
    let said = steps_told l.self.env.now.functions in
    said l.told ++ flat_map (declaration_steps l.self.env.now) (drop l.entry-index l.entry-items) ≡ said l.initial.told
    ++ flat_map (declaration_steps l.self.env.now) l.entry-items
