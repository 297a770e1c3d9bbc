use Rattle.std.proofs.Common.{◌≡◌, ◌<◌, sym, ap, ◌∙◌, length, arith, get_or, true}
use Rattle.std.specs.Map.{keys_of}
use Rattle.std.proofs.lemmas.Bool.{not-false}
use Rattle.std.proofs.lemmas.List.{get_or_default}
use Rattle.std.proofs.lemmas.Map.Entries.{length-keys_of}
use Rattle.rc_names.specs.Numbers.{same_id}
use Rattle.rc_names.proofs.NumbersLemmas.{same_id-eq}
use Rattle.rc_build.proofs.PositionLemmas.{position_is}
use Rattle.rc_build.proofs.places.position_from.Goals as goal

pub returns : goal.returns
returns c =
    let blocks = c.args.blocks.now in
    let keys = keys_of blocks in
    let key = c.args.key in
    let place = c.args.place in
    let within : place < length keys = omega (
      arith,
      c.if-place-len.false,
      c.len.ensures.value,
      length-keys_of blocks,
    ) in
    let same : same_id (get_or c.keys.result.now place (0, record {})) key ≡ true = not-false _
    (sym c.ne.ensures ∙ c.if-ne.false) in
    let here : get_or keys place key ≡ key = get_or_default keys place key (0, record {}) within
    ∙ ap (λ ks. get_or ks place (0, record {})) (sym c.keys.ensures) ∙ same_id-eq _ key same in
    sym (position_is keys key place c.len.ensures.distinct within here)
