use Rattle.std.proofs.Common.{◌≡◌, ◌++◌, drop, map}
use Rattle.rc_slots.specs.Slots.{first_outside, lengths_in}
use Rattle.rc_slots.proofs.plan.lengths_of.Given as goal

-- the scopes that are left have the other lengths, and any scope that is outside the table
abbrev pub invariant-loop-scope : goal.invariant-loop-scope
invariant-loop-scope l =
    (l.lengths ++ map (lengths_in l.env) (drop l.scope-index l.scopes) ≡ map (lengths_in l.env) l.scopes)
    × (first_outside l.env (drop l.scope-index l.scopes) ≡ first_outside l.env l.scopes)
