-- Where no scope has a block, the memoized names decide nothing, so the body may be rebuilt for any names.
use Rattle.std.proofs.Common.{◌≡◌, ◌∙◌, List, [], ap, subst}
use Rattle.rc_hir.specs.Model.{Environment}
use Rattle.rc_names.specs.Numbers.{DeclarationId}
use Rattle.rc_tree.specs.Model.{ReactiveBlock, ReactiveFunction}
use Rattle.rc_tree.specs.ScopesIn.{scopes_in}
use Rattle.rc_escape.proofs.EveryWalk.{every_record_has_set}
use Rattle.rc_escape.proofs.NotEscaping.LeftScopes.{decided_not_escaping}
use Rattle.rc_escape.proofs.ScopelessTrees.{rebuilt_alike}
use Rattle.rc_escape.specs.Met.{nothing_met}
use Rattle.rc_escape.specs.NotEscaping.{HasDecidedNotEscaping, IsRebuiltFor, not_escaping_rules}
use Rattle.rc_escape.specs.Outputs.{dissolved_fates}
use Rattle.rc_escape.specs.WholeRecord.{HasWholeRecord}

pub flags_alone : (env : Environment) (func : ReactiveFunction) (set : List DeclarationId) (after : ReactiveBlock)
    → HasWholeRecord env func → scopes_in func.body ≡ [] → IsRebuiltFor env set func.body after
    → HasDecidedNotEscaping env func after []
flags_alone env func set after has none is =
    let memo = every_record_has_set has.rec in
    let all = decided_not_escaping env func memo.0 after
    (record { rec = has.rec; recorded = has.recorded; whole = has.whole; memoized = memo.1 })
    (record {
      left = is.left;
      rebuilt = rebuilt_alike (not_escaping_rules env memo.0) (not_escaping_rules env set).scope func.body none
          nothing_met ∙ is.rebuilt;
    }) in
    subst (HasDecidedNotEscaping env func after) (all.told ∙ ap (dissolved_fates env all.without.set) none) all
