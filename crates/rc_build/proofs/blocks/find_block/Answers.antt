use Rattle.std.proofs.Common.{◌≡◌, ◌∙◌, None, subst, sym}
use Rattle.std.proofs.lemmas.Bool.{not-true}
use Rattle.indexmap.proofs.MapLemmas.{Missing-position}
use Rattle.rc_names.specs.Numbers.{BlockId, same_id}
use Rattle.rc_hir.specs.Model.{HirFunction}
use Rattle.rc_runs.specs.Graph.{basic_block}
use Rattle.rc_build.specs.RuleFacts.{FaultFact}
use Rattle.rc_build.specs.inside.CanBuild.{place_of}
use Rattle.rc_build.proofs.PositionLemmas.{value_there}
use Rattle.rc_build.proofs.UsableLemmas.{unusable_missing, unusable_numbered}
use Rattle.rc_build.proofs.blocks.find_block.Goals as goal

module _ (hir : HirFunction) (key : BlockId) where
  -- where the key has no position, there is no block
  no_block : place_of hir key ≡ None → basic_block hir key ≡ None
  no_block none = (Missing-position (same_id key) hir.body.blocks none).value

pub returns-in_default-clause-refused : goal.returns-in_default-clause-refused
returns-in_default-clause-refused c =
    unusable_missing c.args.hir.now c.args.key (no_block c.args.hir.now c.args.key (sym c.in_default.ensures))

pub returns-in_default-clause-facts : goal.returns-in_default-clause-facts
returns-in_default-clause-facts c = subst (FaultFact c.args.hir.now) (sym c.malformed.ensures)
    (no_block c.args.hir.now c.args.key (sym c.in_default.ensures), c.requires)

pub returns-then-ne-clause-refused : goal.returns-then-ne-clause-refused
returns-then-ne-clause-refused c =
    let found = value_there c.args.hir.now.body.blocks c.args.key (sym c.in-Some.ensures) c.values.ensures
    c.index-values-place.is in
    unusable_numbered c.args.hir.now c.args.key c.index-values-place.result found
    (not-true _ (sym c.ne.ensures ∙ c.if-ne.true))

pub returns-then-ne-clause-facts : goal.returns-then-ne-clause-facts
returns-then-ne-clause-facts c = subst (FaultFact c.args.hir.now) (sym c.malformed-then-ne.ensures) (record {
  block = c.index-values-place.result;
  found = value_there c.args.hir.now.body.blocks c.args.key (sym c.in-Some.ensures) c.values.ensures c.index-values-place.is;
  holds = not-true _ (sym c.ne.ensures ∙ c.if-ne.true);
})

pub returns-clause-found : goal.returns-clause-found
returns-clause-found c =
    value_there c.args.hir.now.body.blocks c.args.key (sym c.in-Some.ensures) c.values.ensures c.index-values-place.is
