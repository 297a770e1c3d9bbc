use Rattle.std.proofs.Common.{◌≡◌, ◌∙◌, List, Some, ap, slice_get, subst, sym}
use Rattle.std.specs.Prelude.{IfOk, slice_set}
use Rattle.rc_hir.specs.Model.{DeclarationEntry}
use Rattle.rc_names.proofs.NumbersLemmas.{same_id-eq}
use Rattle.rc_merge.specs.Joining.{declared_name}
use Rattle.rc_merge.specs.declared.declared.Declared.{Declared}
use Rattle.rc_merge.specs.declared.declared.Slot.{Slot}
use Rattle.rc_merge.specs.inside.Declarations.{IsDeclared, current_of, entries_of, slot_of}
use Rattle.rc_merge.specs.inside.Indexed.{current}
use Rattle.rc_merge.specs.inside.LastUsesMet.{uses_of}
use Rattle.rc_merge.proofs.CurrentLemmas.{all_current}
use Rattle.rc_merge.proofs.DeclaredLemmas.{replaced, set_mapped}
use Rattle.rc_merge.proofs.declared.Declared.replace.Goals as goal

pub returns-then-eq-clause-current : goal.returns-then-eq-clause-current
returns-then-eq-clause-current c =
    let slots = c.args.self.slots in
    let slot = slot_of c.args.known.now.env.now (uses_of c.args.known.now.uses.now) c.args.entry in
    all_current c.args.self.end c.set_slot.new.slots c.requires.whole
    ∙ ap entries_of (c.set_slot.ensures ∙ ap (slice_set slots c.args.place) c.new.ensures)
    ∙ set_mapped (λ (s : Slot). s.entry) slots c.args.place slot

pub returns-then-eq-clause-indexed : goal.returns-then-eq-clause-indexed
returns-then-eq-clause-indexed c =
    let env = c.args.known.now.env.now in
    let uses = uses_of c.args.known.now.uses.now in
    let declared = c.args.self in
    let old = c.in-Some.old in
    let there : slice_get declared.slots c.args.place ≡ Some old =
    sym c.get.ensures ∙ sym c.copied.ensures ∙ c.in-Some.is in
    let same : declared_name env old.entry ≡ declared_name env c.args.entry = sym c.declaration_of-name.ensures
    ∙ same_id-eq c.declaration_of-name.result c.declaration_of.result (sym c.eq.ensures ∙ c.if-eq.true)
    ∙ c.declaration_of.ensures in
    subst (λ (slots : List Slot). IsDeclared env uses slots declared.places declared.names)
    (sym (c.set_slot.ensures ∙ ap (slice_set declared.slots c.args.place) c.new.ensures))
    (replaced env uses declared.slots declared.places declared.names c.requires.indexed c.args.entry old c.args.place
    c.requires.placed there same)

pub returns-clause-current : goal.returns-clause-current
returns-clause-current c =
    let slots = c.args.self.slots in
    let slot = slot_of c.args.known.now.env.now (uses_of c.args.known.now.uses.now) c.args.entry in
    subst (λ (l : List DeclarationEntry). IfOk c.new-2.result (λ (declared : Declared). current declared ≡ l))
    (c.as_slice-2.ensures ∙ c.in_ok-entries.ensures ∙ ap (current_of c.args.self.end) c.as_slice.ensures
    ∙ all_current c.args.self.end c.set_slot.new.slots c.requires.whole
    ∙ ap entries_of (c.set_slot.ensures ∙ ap (slice_set slots c.args.place) c.new.ensures)
    ∙ set_mapped (λ (s : Slot). s.entry) slots c.args.place slot)
    c.new-2.ensures.current
