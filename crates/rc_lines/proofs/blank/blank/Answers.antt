use Rattle.std.proofs.Common.{◌∙◌}
use native.Mathlib.Numerals.{unary_clauses}
use Rattle.rc_lines.proofs.BlankLemmas.{spaces_split, take_spaces}
use Rattle.rc_lines.proofs.blank.blank.Goals as goal

pub range-requires-clause-end_boundary : goal.range-requires-clause-end_boundary
range-requires-clause-end_boundary c = spaces_split c.args.count c.requires

pub returns : goal.returns
returns c = c.range.ensures.value ∙ simp unary_clauses (take_spaces c.args.count c.requires)
