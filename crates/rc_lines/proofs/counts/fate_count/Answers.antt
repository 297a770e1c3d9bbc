use Rattle.std.proofs.Common.{◌∙◌, rules, tests}
use Rattle.std.proofs.lemmas.Iterator.{YieldsList-from_slice}
use Rattle.std.proofs.lemmas.Iterator.Consumers.{YieldsList-from_filter, count_from_yields_List}
use Rattle.std.proofs.lemmas.List.Sums.{length-filter}
use Rattle.rc_lines.proofs.counts.fate_count.Goals as goal
use Rattle.rc_lines.specs.Counts.{is_of_kind}

pub returns : goal.returns
returns c =
    count_from_yields_List c.filter.result c.count.result c.count.ensures.ran
    (YieldsList-from_filter _ (λ entry. is_of_kind c.args.kind entry.fate) (YieldsList-from_slice c.args.fates.now cc)
    c.filter.ensures.closure (λ x r q k. search (rules, tests)))
    ∙ length-filter (λ entry. is_of_kind c.args.kind entry.fate) c.args.fates.now
