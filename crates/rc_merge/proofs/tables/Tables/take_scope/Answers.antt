use Rattle.std.proofs.Common.{ap, sym}
use Rattle.rc_merge.proofs.DeclaredLemmas.{set_none}
use Rattle.rc_merge.specs.Places.{no_scope}
use Rattle.rc_merge.proofs.tables.Tables.take_scope.Goals as goal

pub returns-in-None-clause-left : goal.returns-in-None-clause-left
returns-in-None-clause-left c =
    ap (λ scopes. record c.args.self.now { scopes = scopes })
    (sym (set_none c.args.self.now.scopes c.args.number.0 no_scope (sym c.in-None.ensures.value)))
