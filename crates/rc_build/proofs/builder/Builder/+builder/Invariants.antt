-- A block is marked before its terminal's parts are built, so what is left of the graph falls; between two marks the
-- functions call each other in one order.
use Rattle.std.proofs.Common.{ℕ, ◌+◌, ◌-◌, ◌*◌, length}
use Rattle.rc_build.specs.declared.builder.Builder.{Builder}
use Rattle.rc_build.specs.inside.Built.{ListSoFar}
use Rattle.rc_build.specs.inside.Switches.{CasesSoFar}
use Rattle.rc_build.proofs.builder.Builder.+builder.Given as goal

-- ten for each block that isn't used
abbrev unused : Builder → ℕ
unused builder = 10 * (length builder.hir.now.body.blocks - length builder.marks.used)

abbrev pub decreases-build_list : goal.decreases-build_list
decreases-build_list l = unused l.self.now + 2

abbrev pub decreases-build_block : goal.decreases-build_block
decreases-build_block l = unused l.self.now + 1

abbrev pub decreases-build_terminal : goal.decreases-build_terminal
decreases-build_terminal l = unused l.self.now + 9

abbrev pub decreases-build_if : goal.decreases-build_if
decreases-build_if l = unused l.self.now + 7

abbrev pub decreases-build_alternate : goal.decreases-build_alternate
decreases-build_alternate l = unused l.self.now + 6

abbrev pub decreases-build_enclosure : goal.decreases-build_enclosure
decreases-build_enclosure l = unused l.self.now + 7

abbrev pub decreases-build_part : goal.decreases-build_part
decreases-build_part l = unused l.self.now + 5

abbrev pub decreases-build_apart : goal.decreases-build_apart
decreases-build_apart l = unused l.self.now + 4

abbrev pub decreases-build_switch : goal.decreases-build_switch
decreases-build_switch l = unused l.self.now + 7

abbrev pub decreases-build_cases_inside : goal.decreases-build_cases_inside
decreases-build_cases_inside l = unused l.self.now + 6

abbrev pub decreases-build_cases : goal.decreases-build_cases
decreases-build_cases l = unused l.self.now + 5

abbrev pub invariant-build_cases-cases : goal.invariant-build_cases-cases
invariant-build_cases-cases l = CasesSoFar l.fn.self l.self l.fn.site l.fn.kept l.kept l.parts l.next

abbrev pub decreases-build_cases-cases : goal.decreases-build_cases-cases
decreases-build_cases-cases l = length l.kept

abbrev pub decreases-build_loop : goal.decreases-build_loop
decreases-build_loop l = unused l.self.now + 7

abbrev pub decreases-build_branch : goal.decreases-build_branch
decreases-build_branch l = unused l.self.now + 7

abbrev pub decreases-build_consequent : goal.decreases-build_consequent
decreases-build_consequent l = unused l.self.now + 6

abbrev pub invariant-build_list-list : goal.invariant-build_list-list
invariant-build_list-list l = ListSoFar l.fn.self l.self l.site l.at

abbrev pub decreases-build_list-list : goal.decreases-build_list-list
decreases-build_list-list l = length l.self.hir.now.body.blocks - length l.self.marks.used

abbrev pub decreases-build_try : goal.decreases-build_try
decreases-build_try l = unused l.self.now + 7
