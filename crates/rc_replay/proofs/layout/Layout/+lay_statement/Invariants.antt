use Rattle.std.proofs.Common.{drop}
use Rattle.rc_replay.specs.inside.LaidBody.{LaysList, LaysCases, stored_before}
use Rattle.rc_replay.specs.inside.LaidExits.{laid_around, laid_switch}
use Rattle.rc_replay.proofs.layout.Layout.+lay_statement.Given as goal

abbrev pub invariant-list-loop-i : goal.invariant-list-loop-i
invariant-list-loop-i l =
    LaysList l.env (stored_before l.statements l.i) l.exits (drop l.i l.statements) l.fn.self l.self l.start

abbrev pub invariant-switch-loop-i : goal.invariant-switch-loop-i
invariant-switch-loop-i l = LaysCases l.env (laid_switch l.exits) (laid_around l.label l.exits) (drop l.i l.cases)
    l.fn.self l.self l.start l.choices l.defaults
