-- The steps of a pass over statements, and the steps of the rewriting walk that they make.
--
-- Such a pass skips rows and values. It has a step before the inside of a scope block, gives the replacements of
-- terminals and of scope blocks after their insides, and has a step for a block whose statements have theirs.
use Rattle.std.specs.Prelude.{Ok}
use Rattle.rc_tree.specs.Step.{Walk, bind}
use Rattle.rc_tree.specs.Fuel.{Hook}
use Rattle.rc_tree.specs.RewriteSteps.{RewriteSteps, skips, idle}
use Rattle.rc_tree.specs.Model.{Enter, ReactiveBlock, ReactiveScopeBlock, ReactiveStatement}
use Rattle.rc_tree.specs.Model.{ReactiveTerminalStatement, Transformed}
use Rattle.rc_tree.specs.declared.hooks.Enter.TheVariants.{Inside}

-- the step of each hook of a pass over statements
pub record StatementSteps (S : Type 0) : Type 0 where
  pub enter_scope : ReactiveScopeBlock → Walk S
  pub transform_terminal : Hook S ReactiveTerminalStatement (Transformed ReactiveStatement)
  pub transform_scope : Hook S ReactiveScopeBlock (Transformed ReactiveStatement)
  pub leave_block : Hook S ReactiveBlock (Unit {0})

module _ {T S : Type 0} (steps : T → StatementSteps S) where
  -- the steps of the walk that aren't idle; no step changes the transform
  abbrev pub enters_scope : Hook (T × S) ReactiveScopeBlock Enter
  enters_scope w x = bind ((steps w.0).enter_scope x w.1) (λ r. Ok (Inside, ((w.0, r.1), x)))

  abbrev pub transforms_terminal : Hook (T × S) ReactiveTerminalStatement (Transformed ReactiveStatement)
  transforms_terminal w x = bind ((steps w.0).transform_terminal w.1 x) (λ r. Ok (r.0, ((w.0, r.1.0), r.1.1)))

  abbrev pub transforms_scope : Hook (T × S) ReactiveScopeBlock (Transformed ReactiveStatement)
  transforms_scope w x = bind ((steps w.0).transform_scope w.1 x) (λ r. Ok (r.0, ((w.0, r.1.0), r.1.1)))

  abbrev pub leaves_block : Hook (T × S) ReactiveBlock (Unit {0})
  leaves_block w x = bind ((steps w.0).leave_block w.1 x) (λ r. Ok (tt, ((w.0, r.1.0), r.1.1)))

  -- all steps of the walk: rows and values are skipped, and the other parts are entered
  abbrev pub over_statements : RewriteSteps (T × S)
  over_statements = record idle {
    enter_instruction = skips;
    enter_value = λ id. skips;
    enter_scope = enters_scope;
    transform_terminal = transforms_terminal;
    transform_scope = transforms_scope;
    leave_block = leaves_block;
  }
