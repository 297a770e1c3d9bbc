use Rattle.std.proofs.Common.{◌∙◌, rules}
use Rattle.rc_doc.proofs.FoundLemmas.{Takes, all_taken, finds_none, found_if_passed, only_if_passed, taken}
use Rattle.rc_doc.proofs.members.four_fields.Goals as goal

pub returns-in_err-end : goal.returns-in_err-end
returns-in_err-end c =
    let walk : Takes _ _ _ _ =
    taken c.take-first.ensures.found c.take-first.ensures.rest
    (taken c.take-second.ensures.found c.take-second.ensures.rest
    (taken c.take-third.ensures.found c.take-third.ensures.rest
    (taken c.take-fourth.ensures.found c.take-fourth.ensures.rest
    all_taken))) in
    let only = only_if_passed _ c.in_ok-members.ensures.ok walk c.requires c.in_ok-members.ensures.ascend in
    finds_none _ _ _ _ (rw only (search rules))

pub returns : goal.returns
returns c =
    let walk : Takes _ _ _ _ =
    taken c.take-first.ensures.found c.take-first.ensures.rest
    (taken c.take-second.ensures.found c.take-second.ensures.rest
    (taken c.take-third.ensures.found c.take-third.ensures.rest
    (taken c.take-fourth.ensures.found c.take-fourth.ensures.rest
    all_taken))) in
    let only = only_if_passed _ c.in_ok-members.ensures.ok walk c.requires c.in_ok-members.ensures.ascend in (
      only ∙ c.in_ok-end.ensures,
      found_if_passed _ c.in_ok-members.ensures.ok walk c.requires
          c.in_ok-members.ensures.ascend c.in_ok-end.ensures,
    )
