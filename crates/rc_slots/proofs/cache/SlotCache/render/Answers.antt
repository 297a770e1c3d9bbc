use Rattle.std.proofs.Common.{◌≡◌, ◌∙◌, length, sym, ap, subst, arith}
use Rattle.std.proofs.lemmas.List.{take_at}
use Rattle.rc_slots.specs.CacheRun.{AllFit, answers, items_after}
use Rattle.rc_slots.specs.inside.CachedSlots.{items_in, slot_counts, slots_after}
use Rattle.rc_slots.proofs.ItemLemmas.{kept_items}
use Rattle.rc_slots.proofs.SlotWriteLemmas.{same_counts}
use Rattle.rc_slots.proofs.cache.SlotCache.render.Goals as goal

pub keep-requires : goal.keep-requires
keep-requires c =
    let fit = subst (λ scopes. AllFit scopes c.args.given.now) (sym (ap (λ cache. cache.scopes) c.self.view_is)) c.requires in
    ap length c.as_mut_slice.ensures.value ∙ c.self.invariant ∙ same_counts c.self.inside.plan.scopes c.args.given.now fit
    ∙ ap slot_counts (sym c.as_slice-given.ensures)

pub returns : goal.returns
returns c =
    let given = c.args.given.now in
    let scopes = c.self.inside.plan.scopes in
    let slots = c.self.inside.slots.items in
    let fit = subst (λ scopes. AllFit scopes given) (sym (ap (λ cache. cache.scopes) c.self.view_is)) c.requires in
    let made : c.in_ok-answers.answers ≡ answers scopes (items_in scopes slots) given =
    cc (c.in_ok-answers.ensures, c.as_slice.ensures, c.as_slice-2.ensures.value, c.as_slice-given.ensures) in
    let kept : c.keep.new.slots ≡ slots_after given (answers scopes (items_in scopes slots) given) slots =
    cc (c.keep.ensures, c.as_slice-given.ensures, c.as_slice-3.ensures, c.as_mut_slice.ensures.value, made) in
    record {
      answers = made ∙ ap (λ cache. answers cache.scopes cache.items given) c.self.view_is;
      scopes = ap (λ cache. cache.scopes) c.self.view_is;
      items = ap (items_in scopes) (take_at c.keep.new.slots _ c.self.inside.slots.len
          (omega (arith, c.keep.auto.slots, c.as_mut_slice.ensures.len, c.self.inside.slots.ok.0)) ∙ kept)
          ∙ kept_items scopes slots given c.self.invariant fit
          ∙ ap (λ cache. items_after cache.scopes cache.items given) c.self.view_is;
      err = tt;
    }
