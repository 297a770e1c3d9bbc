use Rattle.std.proofs.Common.{rules}
use Rattle.rc_names.proofs.KeyedLemmas.{next_pair}
use Rattle.rc_names.proofs.keyed.KeyedCloneIn.clone_in.Goals as goal

-- the pair that was taken is now the last of the copy
pub loop-key-preserved-in_ok-insert : goal.loop-key-preserved-in_ok-insert
loop-key-preserved-in_ok-insert g c =
    next_pair g.K.PartialEq.eq g.met.K.Name.eq_same c.in-Some.key.now c.in-Some.value.now c.loop-key.copy
    c.insert.new.self c.loop-key.key-iterator c.next.new.self
    c.args.self.now (rw (← c.self.view_is) c.self.invariant) c.loop-key.invariant (search rules)
    (cc (c.in_ok-insert.ensures.entries, c.in_ok-clone_in.ensures))

pub loop-key-preserved : goal.loop-key-preserved
loop-key-preserved g c =
    next_pair g.K.PartialEq.eq g.met.K.Name.eq_same c.in-Some.key.now c.in-Some.value.now c.loop-key.copy
    c.insert.new.self c.loop-key.key-iterator c.next.new.self
    c.args.self.now (rw (← c.self.view_is) c.self.invariant) c.loop-key.invariant (search rules)
    (cc (c.in_ok-insert.ensures.entries, c.in_ok-clone_in.ensures))
