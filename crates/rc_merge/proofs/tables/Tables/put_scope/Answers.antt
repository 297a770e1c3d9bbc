use Rattle.std.proofs.Common.{ap, sym}
use Rattle.rc_merge.proofs.DeclaredLemmas.{set_none}
use Rattle.rc_merge.proofs.tables.Tables.put_scope.Goals as goal

pub returns-in_default : goal.returns-in_default
returns-in_default c =
    ap (λ scopes. record c.args.self.now { scopes = scopes })
    (sym (set_none c.args.self.now.scopes c.args.number.0 c.args.scope (sym c.in_default.ensures.value)))
