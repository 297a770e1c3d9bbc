use Rattle.rc_escape.proofs.StoresLemmas.{DecideRest}
use Rattle.rc_names.specs.Numbers.{is_among}
use Rattle.rc_escape.proofs.not_escaping.met.Met.has_dissolved_all.Given as goal

abbrev pub invariant-loop-place : goal.invariant-loop-place
invariant-loop-place l = DecideRest (is_among l.self.dissolved) l.scopes l.place
