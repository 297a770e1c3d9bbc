use Rattle.std.proofs.Common.{◌∙◌, ◌++◌, [], ap}
use Rattle.std.specs.List.{cons_option}
use Rattle.rc_merge.proofs.ToldLemmas.{one_source}
use Rattle.rc_merge.specs.Explained.{source_by}
use Rattle.rc_merge.specs.inside.Indexed.{current}
use Rattle.rc_merge.specs.inside.Rows.{copies_of}
use Rattle.rc_merge.proofs.declared.Declared.sources_of.Goals as goal

pub loop-dependency-preserved : goal.loop-dependency-preserved
loop-dependency-preserved c =
    let sources = c.loop-dependency.sources in
    one_source (source_by c.args.known.now.env.now (copies_of c.args.copies.now) (current c.args.self.now))
    c.args.dependencies.now sources _ c.loop-dependency.dependency-index c.dependency-item.result
    c.loop-dependency-test.true c.dependency-item.is c.loop-dependency.invariant
    (c.in_ok-push_source.ensures ∙ ap (λ source. sources ++ cons_option source []) c.source_for.ensures)
