use Rattle.std.proofs.Common.{◌∙◌, ap, sym}
use Rattle.std.specs.Cmp.{nat_cmp_total}
use Rattle.std.specs.FinSet as set
use Rattle.rc_checks.proofs.block_set.BlockSet.contains.Goals as goal

pub returns : goal.returns
returns c =
    c.contains.ensures ∙ sym (set.contains-from_list nat_cmp_total c.self.inside.numbers.keys c.args.block.0)
    ∙ ap (λ blocks. set.contains blocks c.args.block.0) c.self.view_is
