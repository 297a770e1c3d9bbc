-- Where no scope has a block, only a number could be wrong.
use Rattle.std.proofs.Common.{◌≡◌, ◌∙◌, [], rules, sym}
use Rattle.rc_checks.proofs.MembershipCheck.WithoutBlocks.{inside_without_blocks}
use Rattle.rc_checks.proofs.membership.assert_known_instructions_within_scopes.Goals as goal

pub returns-then-is_empty-clause-ok : goal.returns-then-is_empty-clause-ok
returns-then-is_empty-clause-ok c =
    let none : c.in_ok-scopes_in.field-0 ≡ [] = search rules in
    inside_without_blocks c.args.env.now c.args.func.now c.requires.known (sym c.in_ok-scopes_in.ensures.found ∙ none)
