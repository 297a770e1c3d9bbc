use Rattle.std.proofs.Common.{◌∙◌, ◌≤◌, rules}
use Rattle.rc_lines.proofs.BlankLemmas.{spaces_more}
use Rattle.rc_lines.proofs.blank.push_spaces.Goals as goal

pub loop-left-preserved : goal.loop-left-preserved
loop-left-preserved c =
    let few : c.min-some.result ≤ c.loop-left.left = search rules in
    spaces_more _ _ _ c.min-some.result c.loop-left.left c.in_ok-push_str.ensures.bytes c.blank.ensures few
    ∙ c.loop-left.invariant
