use Rattle.std.proofs.Common.{◌∙◌, ap}
use Rattle.std.proofs.lemmas.Result.{on_ok_weaker}
use Rattle.rc_names.specs.Numbers.{same_id}
use Rattle.rc_merge.proofs.MetUsesLemmas.{put_use}
use Rattle.rc_merge.specs.inside.LastUsesMet.{put_later}
use Rattle.rc_merge.proofs.last_uses.MetUses.add_place.Goals as goal

pub returns-clause-uses : goal.returns-clause-uses
returns-clause-uses c =
    let old = c.args.self.now.uses in
    on_ok_weaker c.put_later.result (λ e. put_use c.args.env.now c.args.id c.args.place.now old c.put_later.new.ids
    (e ∙ ap (λ key. put_later same_id key c.args.id old) c.declaration_of.ensures)) c.put_later.ensures
