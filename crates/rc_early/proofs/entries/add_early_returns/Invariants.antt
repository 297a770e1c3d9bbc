use Rattle.std.proofs.Common.{◌≡◌, ◌-◌, drop, length}
use Rattle.rc_early.specs.Entries.{with_early_returns}
use Rattle.rc_early.specs.inside.Growing.{AreNumbered, Fits, Grows}
use Rattle.rc_early.proofs.entries.add_early_returns.Given as goal

-- what is left does the rest
abbrev pub invariant-loop-early : goal.invariant-loop-early
invariant-loop-early l = record {
  entries : with_early_returns l.made l.initial.env ≡ with_early_returns (drop l.early-index l.made) l.env;
  numbered : AreNumbered l.env (drop l.early-index l.made);
  room : Fits l.env (length l.made - l.early-index);
  grows : Grows l.initial.env l.env;
}
