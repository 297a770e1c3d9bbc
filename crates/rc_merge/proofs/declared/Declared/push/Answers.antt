use Rattle.std.proofs.Common.{◌∙◌, ◌++◌, ◌∷◌, [], ap}
use Rattle.std.proofs.lemmas.List.{map-append}
use Rattle.rc_merge.specs.declared.declared.Slot.{Slot}
use Rattle.rc_merge.specs.inside.Declarations.{current_of, entries_of, slot_of, with_place}
use Rattle.rc_merge.specs.inside.LastUsesMet.{uses_of}
use Rattle.rc_merge.proofs.DeclaredLemmas.{pushed_as}
use Rattle.rc_merge.proofs.declared.Declared.push.Goals as goal

pub returns-clause-current : goal.returns-clause-current
returns-clause-current c =
    ap (current_of c.args.self.end)
    (c.in_ok-push.ensures.ok ∙ ap (λ (s : Slot). c.args.self.slots ++ s ∷ []) c.new-slot.ensures)

pub returns-clause-entries : goal.returns-clause-entries
returns-clause-entries c =
    ap entries_of (c.in_ok-push.ensures.ok ∙ ap (λ (s : Slot). c.args.self.slots ++ s ∷ []) c.new-slot.ensures)
    ∙ map-append (λ (s : Slot). s.entry) c.args.self.slots
    (slot_of c.args.known.now.env.now (uses_of c.args.known.now.uses.now) c.args.entry ∷ [])

pub returns-clause-indexed : goal.returns-clause-indexed
returns-clause-indexed c =
    let old = c.args.self in
    pushed_as c.args.known.now.env.now (uses_of c.args.known.now.uses.now) old.slots old.places old.names c.requires
    c.args.entry c.declaration_of-name.result c.new-slot.result c.push.new.self c.note_place.new.places
    c.insert.new.self c.declaration_of-name.ensures c.new-slot.ensures c.in_ok-push.ensures.ok
    (c.in_ok-note_place.ensures ∙ ap (λ n. with_place c.args.entry.key n old.places) c.len-place.ensures)
    c.in_ok-insert.ensures.keys
