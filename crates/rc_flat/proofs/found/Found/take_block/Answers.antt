use Rattle.std.proofs.Common.{◌≡◌, ◌+◌, arith}
use Rattle.rc_flat.proofs.FoundLemmas.{oldest_block}
use Rattle.rc_flat.proofs.found.Found.take_block.Goals as goal

pub returns-in-Some : goal.returns-in-Some
returns-in-Some c =
    let number : c.args.number + 1 ≡ c.args.self.next_block = omega arith in
    rw c.from-in-Some.ensures
    (oldest_block c.args.number c.args.self c.take_oldest.new.self c.in-Some.block number c.in-Some.ensures.oldest)
