-- The rewriting walk of a part: the steps of its hooks, in the order of the table of parts, with the part after them.
--
-- A part's enter step comes first. At `Inside` the steps of the inside and then the leave step follow, and at `Skip`
-- neither. A statement's `transform_` step comes last in both cases. An enter step may change its part, so the walk is
-- defined with fuel. No enter step makes its part deeper, so more fuel than the part's depth is enough. Operands are
-- looked up in the transform's table of functions, which no step changes.
pub mod Values
pub mod Terminals
use Rattle.std.specs.Prelude.{ℕ, zero, suc, List, [], ◌∷◌, ◌++◌}
use Rattle.rc_hir.specs.Model.{HirFunction}
use Rattle.rc_tree.specs.Unrolled.{UnrolledStatement}
use Rattle.rc_tree.specs.Fuel.{Fueled, OutOfFuel, Done, bind, after, as_step, Hook, FueledWalk, FueledInto, in_turn}
use Rattle.rc_tree.specs.Fuel.{around}
use Rattle.rc_tree.specs.RewriteSteps.{RewriteSteps}
use Rattle.rc_tree.specs.Model.{PrunedReactiveScopeBlock, ReactiveTerminalStatement, Transformed}
use Rattle.rc_tree.specs.declared.scope.PrunedReactiveScopeBlock.{size-PrunedReactiveScopeBlock}
use Rattle.rc_tree.specs.declared.scope.ReactiveScopeBlock.{ReactiveScopeBlock, size-ReactiveScopeBlock}
use Rattle.rc_tree.specs.declared.statement.ReactiveBlock.{ReactiveBlock, size-ReactiveBlock}
use Rattle.rc_tree.specs.declared.statement.ReactiveStatement.{ReactiveStatement, out-ReactiveStatement}
use Rattle.rc_tree.specs.declared.statement.ReactiveStatement.{size-ReactiveStatement}
use Rattle.rc_tree.specs.declared.statement.ReactiveStatement.TheOpen as layer
use Rattle.rc_tree.specs.declared.statement.ReactiveStatement.TheVariants as reactive
use Rattle.rc_tree.specs.declared.terminal.ReactiveTerminalStatement.{size-ReactiveTerminalStatement}
use Rattle.rc_tree.specs.declared.hooks.Transformed.TheVariants.{Keep, Remove, Replace, ReplaceMany}
use Rattle.rc_tree.specs.Rewrite.Values.{rewrite_instruction}
use Rattle.rc_tree.specs.Rewrite.Terminals.{terminal_inside, terminal_at}

-- the replacement of a statement by the result of its `transform_` step
abbrev pub in_place : Transformed ReactiveStatement → ReactiveStatement → List ReactiveStatement
in_place Keep x = x ∷ []
in_place Remove x = []
in_place (Replace y) x = y ∷ []
in_place (ReplaceMany ys) x = ys

-- the world is the transform together with the state
module _ {T S : Type 0} (v : RewriteSteps (T × S)) (functions : T → List HirFunction) where
  module _ (inner : FueledWalk (T × S) ReactiveBlock) where
    -- the inside of a scope or pruned scope is its block
    abbrev pub scope_inside : FueledWalk (T × S) ReactiveScopeBlock
    scope_inside w x = bind (inner w x.instructions) (λ a. Done
        (tt, (a.1.0, record { scope = x.scope; instructions = a.1.1 })))

    abbrev pub pruned_scope_inside : FueledWalk (T × S) PrunedReactiveScopeBlock
    pruned_scope_inside w x =
        bind (inner w x.instructions) (λ a. Done (tt, (a.1.0, record { scope = x.scope; instructions = a.1.1 })))

    -- the walk of a scope, of a pruned scope
    unfoldable pub scope_at : FueledWalk (T × S) ReactiveScopeBlock
    scope_at w x = around v.enter_scope scope_inside v.leave_scope w x

    unfoldable pub pruned_scope_at : FueledWalk (T × S) PrunedReactiveScopeBlock
    pruned_scope_at w x = around v.enter_pruned_scope pruned_scope_inside v.leave_pruned_scope w x

    -- each form of statement: the walk of its part, and then its `transform_` step
    abbrev pub statement_layer : (T × S) → UnrolledStatement
        → Fueled (Transformed ReactiveStatement × ((T × S) × ReactiveStatement))
    statement_layer w (layer.Instruction x) =
        after (rewrite_instruction v functions w x) (λ a. after (v.transform_instruction a.1.0 a.1.1)
        (λ b. Done (b.0, (b.1.0, reactive.Instruction b.1.1))))
    statement_layer w (layer.Terminal x) = bind (terminal_at v functions inner w x)
        (λ a. after (v.transform_terminal a.1.0 a.1.1) (λ b. Done (b.0, (b.1.0, reactive.Terminal b.1.1))))
    statement_layer w (layer.Scope x) =
        bind (scope_at w x) (λ a. after (v.transform_scope a.1.0 a.1.1)
        (λ b. Done (b.0, (b.1.0, reactive.Scope b.1.1))))
    statement_layer w (layer.PrunedScope x) =
        bind (pruned_scope_at w x) (λ a. after (v.transform_pruned_scope a.1.0 a.1.1)
        (λ b. Done (b.0, (b.1.0, reactive.PrunedScope b.1.1))))

    -- a statement, by its form
    abbrev pub statement_at : (T × S) → ReactiveStatement
        → Fueled (Transformed ReactiveStatement × ((T × S) × ReactiveStatement))
    statement_at w x = statement_layer w (out-ReactiveStatement x)

    -- the walk of a statement, whose replacement is appended to the statements that are done
    unfoldable pub into_at : FueledInto (T × S) ReactiveStatement
    into_at w done x = bind (statement_at w x) (λ a. Done (tt, (a.1.0, done ++ in_place a.0 a.1.1)))

    -- the walk of statements, in order; the replacement of a statement isn't walked again
    unfoldable pub statements_at : FueledWalk (T × S) (List ReactiveStatement)
    statements_at w xs = in_turn into_at w [] xs

    -- the inside of a block is its statements
    abbrev pub block_inside : FueledWalk (T × S) ReactiveBlock
    block_inside w x = bind (statements_at w x.statements) (λ a. Done (tt, (a.1.0, record { statements = a.1.1 })))

  -- the walk of a block, with fuel
  unfoldable pub block_to : ℕ → FueledWalk (T × S) ReactiveBlock
  block_to zero w x = OutOfFuel
  block_to (suc n) w x = around v.enter_block (block_inside (block_to n)) v.leave_block w x

  -- the walk of a block
  unfoldable pub rewrite_block : Hook (T × S) ReactiveBlock (Unit {0})
  rewrite_block w x = as_step (block_to (suc (size-ReactiveBlock x)) w x)

  -- the walk of the inside of a block, of a scope, of a pruned scope, of a terminal
  unfoldable pub inside_block : Hook (T × S) ReactiveBlock (Unit {0})
  inside_block w x = as_step (block_inside (block_to (size-ReactiveBlock x)) w x)

  unfoldable pub inside_scope : Hook (T × S) ReactiveScopeBlock (Unit {0})
  inside_scope w x = as_step (scope_inside (block_to (size-ReactiveScopeBlock x)) w x)

  unfoldable pub inside_pruned_scope : Hook (T × S) PrunedReactiveScopeBlock (Unit {0})
  inside_pruned_scope w x = as_step (pruned_scope_inside (block_to (size-PrunedReactiveScopeBlock x)) w x)

  unfoldable pub inside_terminal : Hook (T × S) ReactiveTerminalStatement (Unit {0})
  inside_terminal w x = as_step (terminal_inside v functions (block_to (size-ReactiveTerminalStatement x)) w x)

  -- the walk of a statement, and the result of its `transform_` step
  unfoldable pub rewrite_statement : Hook (T × S) ReactiveStatement (Transformed ReactiveStatement)
  rewrite_statement w x = as_step (statement_at (block_to (size-ReactiveStatement x)) w x)
