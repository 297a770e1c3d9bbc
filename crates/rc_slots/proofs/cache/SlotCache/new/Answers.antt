use Rattle.std.proofs.Common.{◌≡◌, ◌∙◌, refl, ap, rules}
use Rattle.rc_slots.specs.inside.CachedSlots.{items_in, empty_slots}
use Rattle.rc_slots.proofs.ItemLemmas.{empty_items}
use Rattle.rc_slots.proofs.cache.SlotCache.new.Goals as goal

pub returns : goal.returns
returns c =
    let scopes = c.args.plan.scopes in
    let empty : c.in_ok-slots.slots.items ≡ empty_slots c.args.plan.total =
    c.in_ok-slots.ensures.items_if_clones_equal (λ y clone. search rules) in
    record {
      scopes = refl;
      items = ap (items_in scopes) (empty ∙ ap empty_slots c.requires.total) ∙ empty_items scopes;
    }
