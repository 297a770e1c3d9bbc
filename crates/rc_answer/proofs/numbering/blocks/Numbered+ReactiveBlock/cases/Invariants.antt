use Rattle.std.proofs.Common.{drop}
use Rattle.rc_answer.specs.inside.Cases.{flat_case}
use Rattle.rc_flat.specs.Blocks.{block_if, block_of_case, blocks_in_cases, flat_cases}
use Rattle.rc_answer.proofs.NumberingLemmas.{IsDone}
use Rattle.rc_answer.proofs.numbering.blocks.Numbered+ReactiveBlock.cases.Given as goal

abbrev pub invariant-loop-case : goal.invariant-loop-case
invariant-loop-case l =
    IsDone flat_case (λ case. block_if (block_of_case case)) flat_cases blocks_in_cases (drop l.case-index l.cases)
    l.cases l.flat
    l.initial.self l.self
