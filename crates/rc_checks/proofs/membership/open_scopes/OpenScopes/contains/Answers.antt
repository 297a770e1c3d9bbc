use Rattle.std.proofs.Common.{◌∙◌, ap, reverse}
use Rattle.rc_names.specs.Numbers.{is_among}
use Rattle.rc_checks.proofs.MembershipCheck.OpenScopesLemmas.{among_distinct}
use Rattle.rc_checks.proofs.membership.open_scopes.OpenScopes.contains.Goals as goal

pub returns : goal.returns
returns c =
    c.contains.ensures ∙ ap (λ scopes. is_among scopes c.args.scope) c.self.invariant.scopes
    ∙ among_distinct (reverse c.self.inside.blocks) c.args.scope
    ∙ ap (λ scopes. is_among scopes c.args.scope) c.self.view_is
