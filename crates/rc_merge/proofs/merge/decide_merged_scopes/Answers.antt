use Rattle.std.proofs.Common.{refl}
use Rattle.rc_merge.proofs.DecidedByRule.{merging_decided}
use Rattle.rc_merge.proofs.DissolvedExactly.{dissolves_exactly}
use Rattle.rc_merge.proofs.DissolvesFresh.{dissolves_fresh}
use Rattle.rc_merge.proofs.JoinsFresh.{joins_fresh, parts_fresh}
use Rattle.rc_merge.proofs.MergedClauses.{is_merged, keeps_erased, keeps_known, keeps_names, keeps_numbers}
use Rattle.rc_merge.proofs.MergingTells.{scopes_once}
use Rattle.rc_merge.proofs.merge.decide_merged_scopes.Goals as goal

pub returns-clause-ok : goal.returns-clause-ok
returns-clause-ok c = λ once. is_merged _ _ _ _ _ _ c.in_ok-tables.ensures.merged refl once

pub returns-clause-decided : goal.returns-clause-decided
returns-clause-decided c = λ once. merging_decided _ _ _ _ _ (returns-clause-ok c once)

pub returns-clause-joins : goal.returns-clause-joins
returns-clause-joins c = λ once. joins_fresh _ _ _ _ _ (returns-clause-ok c once)

pub returns-clause-parts : goal.returns-clause-parts
returns-clause-parts c = λ once. parts_fresh _ _ _ _ _ (returns-clause-ok c once)

pub returns-clause-dissolves : goal.returns-clause-dissolves
returns-clause-dissolves c = λ once. dissolves_fresh _ _ _ _ _ (returns-clause-ok c once)

pub returns-clause-exactly : goal.returns-clause-exactly
returns-clause-exactly c = λ once. dissolves_exactly _ _ _ _ _ (returns-clause-ok c once)

pub returns-clause-scopes_once : goal.returns-clause-scopes_once
returns-clause-scopes_once c = λ once. scopes_once _ _ _ _ _ (returns-clause-ok c once) once

pub returns-clause-kept_erased : goal.returns-clause-kept_erased
returns-clause-kept_erased c = keeps_erased _ _ _ _ _ _ c.in_ok-tables.ensures.merged refl

pub returns-clause-known : goal.returns-clause-known
returns-clause-known c = keeps_known _ _ _ _ _ _ c.in_ok-tables.ensures.merged refl

pub returns-clause-known_names : goal.returns-clause-known_names
returns-clause-known_names c = keeps_names _ _ _ _ _ _ c.in_ok-tables.ensures.merged refl

pub returns-clause-kept_numbers : goal.returns-clause-kept_numbers
returns-clause-kept_numbers c = keeps_numbers _ _ _ _ _ _ c.in_ok-tables.ensures.merged refl
