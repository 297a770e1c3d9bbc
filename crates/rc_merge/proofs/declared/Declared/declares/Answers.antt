use Rattle.std.proofs.Common.{◌∙◌, Bool, ap, sym}
use Rattle.std.specs.Prelude.{◌&&◌}
use Rattle.rc_merge.specs.Joining.{is_used_from}
use Rattle.rc_merge.specs.inside.LastUsesMet.{uses_of}
use Rattle.rc_merge.proofs.CurrentLemmas.{current_declares}
use Rattle.rc_merge.proofs.declared.Declared.declares.Goals as goal

pub returns-then-contains : goal.returns-then-contains
returns-then-contains c =
    let declared = c.args.self.now in
    let env = c.args.known.now.env.now in
    let uses = uses_of c.args.known.now.uses.now in
    c.is_used_from.ensures
    ∙ sym (current_declares env uses declared.end declared.slots c.args.name c.requires.lasts
    ∙ ap (λ (b : Bool). b && is_used_from declared.end (uses c.args.name))
    (sym (c.requires.named c.args.name) ∙ sym c.contains.ensures ∙ c.if-contains.true))

pub returns-else-contains : goal.returns-else-contains
returns-else-contains c =
    let declared = c.args.self.now in
    let env = c.args.known.now.env.now in
    let uses = uses_of c.args.known.now.uses.now in
    c.if-contains.false
    ∙ sym (current_declares env uses declared.end declared.slots c.args.name c.requires.lasts
    ∙ ap (λ (b : Bool). b && is_used_from declared.end (uses c.args.name))
    (sym (c.requires.named c.args.name) ∙ sym c.contains.ensures ∙ c.if-contains.false))
