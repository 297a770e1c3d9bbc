use Rattle.std.proofs.Common.{◌<◌, All, subst, sym}
use Rattle.rc_pipe.proofs.BlocksLemmas.{all_keys, of_all_keys}
use Rattle.rc_pipe.proofs.causes.are_keys_below.Goals as goal

pub returns : goal.returns
returns c = (
  λ is. of_all_keys (λ key. key.0 < c.args.next_block) c.args.hir.now.body.blocks
      (subst (All (λ key. key.0 < c.args.next_block)) c.keys.ensures (c.are_below.ensures.0 is)),
  λ all. c.are_below.ensures.1 (subst (All (λ key. key.0 < c.args.next_block)) (sym c.keys.ensures)
      (all_keys (λ key. key.0 < c.args.next_block) c.args.hir.now.body.blocks all)),
)
