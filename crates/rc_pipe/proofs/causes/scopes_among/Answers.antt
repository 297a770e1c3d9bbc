use Rattle.std.proofs.Common.{◌∙◌, rules, tests}
use Rattle.std.proofs.lemmas.Iterator.{YieldsList-from_slice}
use Rattle.std.proofs.lemmas.Iterator.Consumers.{YieldsList-from_filter, count_from_yields_List}
use Rattle.std.proofs.lemmas.List.Sums.{length-filter}
use Rattle.rc_pipe.proofs.causes.scopes_among.Goals as goal
use Rattle.rc_pipe.specs.Causes.{is_scope}

pub returns : goal.returns
returns c =
    count_from_yields_List c.filter.result c.count.result c.count.ensures.ran
    (YieldsList-from_filter _ (λ block. is_scope block.terminal) (YieldsList-from_slice c.args.blocks.now cc)
    c.filter.ensures.closure (λ x r q k. search (rules, tests)))
    ∙ length-filter (λ block. is_scope block.terminal) c.args.blocks.now
