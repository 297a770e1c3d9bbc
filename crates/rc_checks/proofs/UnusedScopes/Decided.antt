-- The pass on unused scopes decided by its rule: of the scopes whose block gives nothing, and of no others.
use Rattle.std.proofs.Common.{◌≡◌, ◌∙◌, List, map, sym, ap, subst}
use Rattle.rc_hir.specs.Model.{Environment}
use Rattle.rc_names.specs.Numbers.{times}
use Rattle.rc_tree.proofs.TestedLemmas.{decided_by_test}
use Rattle.rc_tree.specs.Decided.{IsDecidedBy}
use Rattle.rc_tree.specs.Model.{ReactiveBlock}
use Rattle.rc_tree.specs.declared.fate.Fate.TheVariants.{Kept, Unused}
use Rattle.rc_tree.specs.declared.fate.ScopeFate.{ScopeFate}
use Rattle.rc_checks.proofs.ScopeBlocks.ContentsLemmas.{same_scopes}
use Rattle.rc_checks.proofs.UnusedScopes.UsedScopesStay.{used_scopes_stay}
use Rattle.rc_checks.specs.ScopeBlocks.{ScopeBlock, scope_blocks}
use Rattle.rc_checks.specs.UnusedScopes.{LosesUnusedScopes, stays, unused_rule}

pub unused_decided : (env : Environment) (before after : ReactiveBlock) (log : List ScopeFate)
    → LosesUnusedScopes env before after log → IsDecidedBy (unused_rule env before) before after log
unused_decided env before after log is =
    let scope_of = λ (block : ScopeBlock). block.scope in
    let known = used_scopes_stay env before after log is in
    subst (IsDecidedBy (unused_rule env before) before after) (sym known.1)
    (decided_by_test scope_of (stays env) Unused before after (scope_blocks before) never
    (λ scope. ap (times scope) (same_scopes before))
    (λ scope. ap (times scope) (same_scopes after ∙ ap (map scope_of) known.0)))
  where
    never : Unused ≡ Kept → ⊥
    never e = cc
