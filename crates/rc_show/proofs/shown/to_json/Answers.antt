use Rattle.serde_json.specs.View.{view}
use Rattle.rc_show.proofs.SentTexts.{value_of_sent}
use Rattle.rc_show.proofs.shown.to_json.Goals as goal

pub returns-in-Ok-clause-value : goal.returns-in-Ok-clause-value
returns-in-Ok-clause-value g c =
    let sent = c.in-Ok.ensures.events in
    value_of_sent _ (view c.in-Ok.value) sent.0 sent.1 c.requires sent.2.0 sent.3 sent.4
