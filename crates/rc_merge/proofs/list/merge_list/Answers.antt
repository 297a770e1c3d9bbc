-- A list without scope blocks is merged already.
use Rattle.std.proofs.Common.{◌≡◌, false, rules}
use Rattle.std.specs.List.{list_any}
use Rattle.rc_merge.proofs.UnmergedLists.{unmerged}
use Rattle.rc_merge.specs.inside.LastUsesMet.{uses_of}
use Rattle.rc_merge.specs.inside.ListSteps.{is_scope}
use Rattle.rc_tree.specs.declared.statement.ReactiveStatement.{out-ReactiveStatement}
use Rattle.rc_merge.proofs.list.merge_list.Goals as goal

pub returns-then-not-has_scope : goal.returns-then-not-has_scope
returns-then-not-has_scope c =
    let none : list_any (λ x. is_scope (out-ReactiveStatement x)) c.args.statements ≡ false = search rules in
    unmerged c.args.known.now.env.now (uses_of c.args.known.now.uses.now) c.args.tables.now.scopes
    c.args.tables.now.copies c.args.tables.now.log c.args.statements none
