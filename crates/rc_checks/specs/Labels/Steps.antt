-- The steps of label pruning as a pass over statements: its answers, and the terminals that it leaves.
use Rattle.std.specs.Prelude.{◌≡◌, Option, None, Some, List, [], Ok}
use Rattle.std.specs.FinSet.{empty}
use Rattle.rc_checks.specs.inside.LabelPruning.{emptied_label, label_in}
use Rattle.rc_checks.specs.Labels.{Targets, flattened, label_after, targets_behind}
use Rattle.rc_tree.specs.Rewrite.{rewrite_block}
use Rattle.rc_tree.specs.StatementSteps.{StatementSteps, over_statements}
use Rattle.rc_tree.specs.Model.{ReactiveBlock, ReactiveStatement, ReactiveTerminalStatement, Transformed}
use Rattle.rc_tree.specs.declared.terminal.ReactiveTerminal.{out-ReactiveTerminal}
use Rattle.rc_tree.specs.declared.hooks.Transformed.TheVariants.{Keep, ReplaceMany}

-- the targets after a terminal
abbrev pub targets_after : ReactiveTerminalStatement → Targets → Targets
targets_after x targets = targets_behind (out-ReactiveTerminal x.terminal) targets

-- the statements of a `Label` that gives way, by the targets after it
abbrev pub statements_taken : Targets → ReactiveTerminalStatement → Option (List ReactiveStatement)
statements_taken targets x = flattened targets x.label (out-ReactiveTerminal x.terminal)

-- the answer for a terminal, by the statements that were taken
abbrev pub terminal_answer : Option (List ReactiveStatement) → Transformed ReactiveStatement
terminal_answer (Some statements) = ReplaceMany statements
terminal_answer None = Keep

-- a terminal without the statements that were taken
abbrev pub without : Option (List ReactiveStatement) → ReactiveTerminalStatement → ReactiveTerminalStatement
without (Some statements) x = record { terminal = emptied_label (label_in x.terminal) x.terminal; label = x.label }
without None x = x

-- the terminal that is left: without its statements, or with its label marked
abbrev pub left_of : Targets → Option (List ReactiveStatement) → ReactiveTerminalStatement → ReactiveTerminalStatement
left_of targets (Some statements) x = without (Some statements) x
left_of targets None x = record { terminal = x.terminal; label = label_after targets x.label }

-- a terminal is judged once its inside is done, and scope blocks are kept
abbrev pub label_steps : StatementSteps Targets
label_steps = record {
  enter_scope = λ x targets. Ok (tt, targets);
  transform_terminal = λ targets x. Ok (
    terminal_answer (statements_taken (targets_after x targets) x),
    (targets_after x targets, left_of (targets_after x targets) (statements_taken (targets_after x targets) x) x),
  );
  transform_scope = λ targets x. Ok (Keep, (targets, x));
  leave_block = λ targets x. Ok (tt, (targets, x));
}

-- the rewriting walk with these steps makes the second block of the first one, from no targets on; the walk
-- skips rows and values, so it looks into no table of functions
pub record IsAfterLabelWalk (before after : ReactiveBlock) : Type 0 where
  pub targets : Targets
  pub walked :
      rewrite_block {T = Unit {0}} (over_statements (λ transform. label_steps)) (λ transform. []) (tt, empty) before
      ≡ Ok (tt, ((tt, targets), after))
