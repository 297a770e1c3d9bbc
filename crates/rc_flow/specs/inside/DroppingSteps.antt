-- The steps of the pass that drops scope blocks, as a pass over statements.
use Rattle.std.specs.Prelude.{Bool, true, false, List, ◌-◌, None, Ok, length, take, unwrap_or}
use Rattle.std.specs.List.{last_or}
use Rattle.rc_tree.specs.Model.{ReactiveScopeBlock, ReactiveStatement, Transformed}
use Rattle.rc_tree.specs.Pruned.{as_pruned, emptied_scope}
use Rattle.rc_tree.specs.StatementSteps.{StatementSteps}
use Rattle.rc_tree.specs.declared.statement.ReactiveStatement.TheVariants as reactive
use Rattle.rc_tree.specs.declared.hooks.Transformed.TheVariants.{Keep, Replace}

-- the last answer; false where there is none, which no walk comes to
abbrev pub last_answer : List Bool → Bool
last_answer answers = unwrap_or (last_or None answers) false

-- the answers before the last one
abbrev pub without_last : List Bool → List Bool
without_last answers = take (length answers - 1) answers

-- the answer for a scope block, with the block that is left
abbrev pub answer_if : Bool → ReactiveScopeBlock → Transformed ReactiveStatement × ReactiveScopeBlock
answer_if false block = (Keep, block)
answer_if true block = (Replace (reactive.PrunedScope (as_pruned block)), emptied_scope block)

-- a scope block takes the next answer, and all else is kept
abbrev pub dropping_steps : StatementSteps (List Bool)
dropping_steps = record {
  enter_scope = λ block answers. Ok (tt, answers);
  transform_terminal = λ answers x. Ok (Keep, (answers, x));
  transform_scope = λ answers block.
      Ok (
        (answer_if (last_answer answers) block).0,
        (without_last answers, (answer_if (last_answer answers) block).1),
      );
  leave_block = λ answers block. Ok (tt, (answers, block));
}
