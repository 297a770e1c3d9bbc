use Rattle.std.proofs.Common.{string_bytes}
use Rattle.rc_show.proofs.SentTexts.{text_of_sent}
use Rattle.rc_show.proofs.shown.to_text.Goals as goal

pub returns-in-Ok : goal.returns-in-Ok
returns-in-Ok g c =
    let sent = c.in-Ok.ensures.events in
    text_of_sent _ sent.0 (string_bytes c.in-Ok.text) c.requires sent.1.0 sent.2
