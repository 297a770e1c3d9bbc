use Rattle.std.proofs.Common.{Err}
use Rattle.std.proofs.lemmas.Result.{err_from_is_err_and}
use Rattle.rc_tree.proofs.RewriteInPlaceLemmas.{meets_asked, meets_asked_fault}
use Rattle.rc_tree.proofs.RewriteStatementLemmas.{gives_rewrite_statement}
use Rattle.rc_tree.specs.Rewrite.{block_to}
use Rattle.rc_walk.proofs.rewrite.statement.transform_stmt.Goals as goal

-- the walk of the statement's part fails
pub returns-in_err-walk_held : goal.returns-in_err-walk_held
returns-in_err-walk_held g c =
    let steps = g.T.ReactiveFunctionTransform.steps in
    let functions = g.T.ReactiveFunctionTransform.functions in
    let p = err_from_is_err_and c.from_residual.result c.from_residual.ensures.1 in
    rw (p.1, p.2) (gives_rewrite_statement steps functions g.met.T.ReactiveFunctionTransform.enters
    (c.args.transform.now, c.args.state.now) c.args.stmt.now (Err c.in_err-walk_held.field-0.0)
    ((c.walk_held.new.transform, c.walk_held.new.state), c.walk_held.new.statement)
    (λ n. meets_asked_fault steps functions (block_to steps functions n) (c.args.transform.now, c.args.state.now)
    c.args.stmt.now c.in_err-walk_held.field-0.0
    ((c.walk_held.new.transform, c.walk_held.new.state), c.walk_held.new.statement)
    ((c.walk_held.new.transform, c.walk_held.new.state), c.walk_held.new.statement) (c.in_err-walk_held.ensures n)))

-- the walk of the statement's part, and then its `transform_` step
pub returns : goal.returns
returns g c =
    let steps = g.T.ReactiveFunctionTransform.steps in
    let functions = g.T.ReactiveFunctionTransform.functions in
    gives_rewrite_statement steps functions g.met.T.ReactiveFunctionTransform.enters
    (c.args.transform.now, c.args.state.now) c.args.stmt.now c.ask.result
    ((c.ask.new.transform, c.ask.new.state), c.ask.new.statement)
    (λ n. meets_asked steps functions (block_to steps functions n) (c.args.transform.now, c.args.state.now)
    (c.walk_held.new.transform, c.walk_held.new.state) c.args.stmt.now c.walk_held.new.statement c.ask.result
    ((c.ask.new.transform, c.ask.new.state), c.ask.new.statement) (c.in_ok-walk_held.ensures n) c.ask.ensures)
