-- The places that were put in are the function's context.
use Rattle.std.proofs.Common.{◌≡◌, ◌∙◌, Some, ap, slice_get, sym}
use Rattle.std.specs.Option.{option_copied}
use Rattle.rc_flow.specs.inside.Told.{context_if, context_of, with_places}
use Rattle.rc_flow.proofs.TakenLemmas.{taken_more}
use Rattle.rc_flow.proofs.taking.take_context.Goals as goal

pub returns-in_ok-mark_places-in-Some-clause-taken : goal.returns-in_ok-mark_places-in-Some-clause-taken
returns-in_ok-mark_places-in-Some-clause-taken c =
    let found : slice_get c.args.env.now.functions c.args.function.0 ≡ Some c.in-Some.known.now =
    sym c.get.ensures ∙ ap option_copied c.in-Some.is in
    let places : c.as_slice.result.now ≡ context_of c.args.env.now.functions c.args.function =
    c.as_slice.ensures ∙ sym (ap context_if found) in
    taken_more c.args.env.now c.args.taken.now c.insert.new.self c.args.function c.args.spread.now.names
    c.mark_places.new.names c.requires.taken c.in_ok-insert.ensures.keys
    (c.in_ok-mark_places-in-Some.ensures ∙ ap (λ ps. with_places ps c.args.spread.now.names) places)
