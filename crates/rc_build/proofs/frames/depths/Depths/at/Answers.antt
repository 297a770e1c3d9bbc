use Rattle.std.proofs.Common.{ap, ◌∙◌}
use Rattle.std.specs.Prelude.{unwrap_or}
use Rattle.std.proofs.lemmas.Option.{unwrap_or-slice_get}
use Rattle.rc_build.specs.inside.Depths.{depth_by}
use Rattle.rc_build.proofs.frames.depths.Depths.at.Goals as goal

pub returns-in-Some : goal.returns-in-Some
returns-in-Some c =
    let depths = c.args.self.now in
    c.unwrap_or.ensures ∙ ap (λ o. unwrap_or o 0) c.get.ensures ∙ unwrap_or-slice_get depths.depths c.in-Some.place 0
    ∙ ap (λ place. depth_by place depths c.args.key) c.in-Some.ensures
