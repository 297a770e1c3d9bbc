use Rattle.std.proofs.Common.{◌∙◌, map, ap, subst, sym}
use Rattle.rc_checks.specs.ScopeBlocks.{ScopeBlock}
use Rattle.rc_checks.specs.UnusedScopes.{LosesUnusedScopes}
use Rattle.rc_tree.proofs.TreeNamesLemmas.{still_known}
use Rattle.rc_checks.proofs.ScopeBlocks.ContentsLemmas.{same_scopes}
use Rattle.rc_checks.proofs.UnusedScopes.Decided.{unused_decided}
use Rattle.rc_checks.proofs.UnusedScopes.Faults.{first_is_outside, named_outside, only_memory}
use Rattle.rc_checks.proofs.UnusedScopes.Keep.{unused_scopes_keep_erased, unused_scopes_keep_names}
use Rattle.rc_checks.proofs.UnusedScopes.UsedScopesStay.{used_scopes_stay}
use Rattle.rc_tree.proofs.DecidedLemmas.{left_once}
use Rattle.rc_checks.proofs.unused_scopes.decide_unused_scopes.Goals as goal

pub returns-in-Ok-clause-loses : goal.returns-in-Ok-clause-loses
returns-in-Ok-clause-loses c =
    subst (LosesUnusedScopes c.args.env.now c.args.func.now.body c.judge_blocks.new.func.body) (sym c.into_log.ensures) c.in-Ok.ensures.loses

pub returns-in-Ok-clause-told : goal.returns-in-Ok-clause-told
returns-in-Ok-clause-told c = (used_scopes_stay c.args.env.now c.args.func.now.body c.judge_blocks.new.func.body c.into_log.result (returns-in-Ok-clause-loses c)).1

pub returns-in-Ok-clause-decided : goal.returns-in-Ok-clause-decided
returns-in-Ok-clause-decided c = unused_decided c.args.env.now c.args.func.now.body c.judge_blocks.new.func.body c.into_log.result (returns-in-Ok-clause-loses c)

pub returns-in-Ok-clause-stays : goal.returns-in-Ok-clause-stays
returns-in-Ok-clause-stays c = (used_scopes_stay c.args.env.now c.args.func.now.body c.judge_blocks.new.func.body c.into_log.result (returns-in-Ok-clause-loses c)).0

pub returns-in-Ok-clause-left : goal.returns-in-Ok-clause-left
returns-in-Ok-clause-left c = same_scopes c.judge_blocks.new.func.body
    ∙ ap (map (λ (block : ScopeBlock). block.scope)) (returns-in-Ok-clause-stays c)

pub returns-in-Ok-clause-scopes_once : goal.returns-in-Ok-clause-scopes_once
returns-in-Ok-clause-scopes_once c = left_once c.args.func.now.body c.judge_blocks.new.func.body c.into_log.result (returns-in-Ok-clause-decided c).lost

pub returns-in-Ok-clause-kept_names : goal.returns-in-Ok-clause-kept_names
returns-in-Ok-clause-kept_names c = unused_scopes_keep_names c.args.env.now c.args.func.now.body c.judge_blocks.new.func.body c.into_log.result (returns-in-Ok-clause-loses c)

pub returns-in-Ok-clause-kept_erased : goal.returns-in-Ok-clause-kept_erased
returns-in-Ok-clause-kept_erased c = unused_scopes_keep_erased c.args.env.now c.args.func.now c.judge_blocks.new.func c.into_log.result c.judge_blocks.ensures.header
    (returns-in-Ok-clause-loses c)

pub returns-in-Ok-clause-known : goal.returns-in-Ok-clause-known
returns-in-Ok-clause-known c = still_known c.args.env.now c.args.func.now c.judge_blocks.new.func c.judge_blocks.ensures.header
    (returns-in-Ok-clause-kept_names c)

pub returns-in-Err-clause-bad_name : goal.returns-in-Err-clause-bad_name
returns-in-Err-clause-bad_name c = first_is_outside c.args.env.now c.in-Err.fault c.args.func.now.body c.in-Err.ensures.refused

pub returns-in-Err-clause-named : goal.returns-in-Err-clause-named
returns-in-Err-clause-named c = named_outside c.args.env.now c.in-Err.fault c.args.func.now c.in-Err.ensures.refused

pub returns-in-Err-clause-sound : goal.returns-in-Err-clause-sound
returns-in-Err-clause-sound c = λ known. only_memory c.args.env.now c.in-Err.fault c.args.func.now known (returns-in-Err-clause-named c)
