-- The steps of the pass on unused scopes, as a pass over statements: its flags, its decisions, its answers, and the
-- scope blocks that it leaves.
use Rattle.std.specs.Prelude.{Bool, true, false, List, [], ◌∷◌, ◌++◌, ◌-◌, Option, None, Some, Result, Ok, Err, length}
use Rattle.std.specs.Prelude.{slice_get, take, unwrap_or, ◌||◌}
use Rattle.std.specs.List.{last_or}
use Rattle.rc_checks.specs.UnusedScopes.{Progress, is_return, is_used}
use Rattle.rc_tree.specs.Pruned.{as_pruned}
use Rattle.rc_checks.specs.declared.unused_scopes.Judging.{Judging}
use Rattle.rc_hir.specs.Model.{Environment, Fault, ReactiveScope}
use Rattle.rc_hir.specs.declared.fault.Fault.TheVariants.{BadName}
use Rattle.rc_hir.specs.declared.fault.TableName.TheVariants.{Scopes}
use Rattle.rc_names.specs.Numbers.{ScopeId}
use Rattle.rc_tree.specs.Pruned.{emptied_scope}
use Rattle.rc_tree.specs.StatementSteps.{StatementSteps}
use Rattle.rc_tree.specs.Model.{ReactiveScopeBlock, ReactiveStatement, Transformed}
use Rattle.rc_tree.specs.declared.fate.Fate.TheVariants.{Unused}
use Rattle.rc_tree.specs.declared.statement.ReactiveStatement.TheVariants as reactive
use Rattle.rc_tree.specs.declared.terminal.ReactiveTerminal.{out-ReactiveTerminal}
use Rattle.rc_tree.specs.declared.hooks.Transformed.TheVariants.{Keep, Replace}

-- the state of the walk that represents a state of the rules, with the flags of the blocks around
abbrev pub at : List Bool → Progress → Judging
at around s = record { met = s.returns; around = around; log = s.log }

-- the state after a terminal that is a `Return` or isn't
abbrev pub after_terminal : Bool → Judging → Judging
after_terminal returning s = record s { met = s.met || returning }

-- the state at the beginning of a scope block
abbrev pub inside_scope : Judging → Judging
inside_scope s = record s { met = false; around = s.around ++ s.met ∷ [] }

-- the last flag; false where there is none, which no walk comes to
abbrev pub last_flag : List Bool → Bool
last_flag flags = unwrap_or (last_or None flags) false

-- the flags before the last one
abbrev pub without_last : List Bool → List Bool
without_last flags = take (length flags - 1) flags

-- the state after a scope block
abbrev pub outside_scope : Judging → Judging
outside_scope s = record s { met = last_flag s.around; around = without_last s.around }

-- the state where it was decided that the scope is unused
abbrev pub with_decided : ScopeId → Judging → Judging
with_decided scope s = record s { log = s.log ++ record { scope = scope; fate = Unused } ∷ [] }

-- the answer for a scope block and the state after the block, with the block that is left
abbrev pub answered : Bool → Judging → ReactiveScopeBlock
    → Transformed ReactiveStatement × (Judging × ReactiveScopeBlock)
answered true s block = (Keep, (outside_scope s, block))
answered false s block = (
  Replace (reactive.PrunedScope (as_pruned block)),
  (with_decided block.scope (outside_scope s), emptied_scope block),
)

-- the same by the scope of the block's number, where that is in the table
abbrev pub scope_answer : Option ReactiveScope → Judging → ReactiveScopeBlock
    → Result (Transformed ReactiveStatement × (Judging × ReactiveScopeBlock)) Fault
scope_answer None s block = Err (BadName Scopes block.scope.0)
scope_answer (Some scope) s block = Ok (answered (is_used scope block.scope s.met) s block)

-- a scope block is judged once its inside is done, and terminals are kept
abbrev pub unused_scope_steps : Environment → StatementSteps Judging
unused_scope_steps env = record {
  enter_scope = λ block s. Ok (tt, inside_scope s);
  transform_terminal = λ s x. Ok (Keep, (after_terminal (is_return (out-ReactiveTerminal x.terminal)) s, x));
  transform_scope = λ s block. scope_answer (slice_get env.scopes block.scope.0) s block;
  leave_block = λ s block. Ok (tt, (s, block));
}
