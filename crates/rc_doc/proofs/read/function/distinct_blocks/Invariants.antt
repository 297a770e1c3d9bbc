use Rattle.std.proofs.Common.{drop}
use Rattle.rc_doc.proofs.Blocks.{ReadSoFar}
use Rattle.rc_doc.proofs.read.function.distinct_blocks.Given as goal

abbrev pub invariant-loop-value : goal.invariant-loop-value
invariant-loop-value l = ReadSoFar l.blocks (drop l.value-index l.values) l.values
