use Rattle.std.proofs.Common.{◌≡◌, ◌+◌, arith}
use Rattle.rc_flat.proofs.FoundLemmas.{oldest_value}
use Rattle.rc_flat.proofs.found.Found.take_value.Goals as goal

pub returns-in-Some : goal.returns-in-Some
returns-in-Some c =
    let number : c.args.number + 1 ≡ c.args.self.next_value = omega arith in
    rw c.from-in-Some.ensures
    (oldest_value c.args.number c.args.self c.take_oldest.new.self c.in-Some.value number c.in-Some.ensures.oldest)
