use Rattle.std.proofs.Common.{◌≡◌, ◌∙◌, List, ap, get_or, rules, subst, sym}
use Rattle.std.proofs.lemmas.List.{take_all}
use Rattle.std.specs.List.{IsDistinct}
use Rattle.indexmap.specs.IndexSet.{insert_key}
use Rattle.rc_names.proofs.KeyedLemmas.{next_key}
use Rattle.rc_names.proofs.key_set.KeySetCloneIn.clone_in.Goals as goal

pub returns : goal.returns
returns g c =
    c.loop-key.invariant ∙ take_all c.loop-key.key-index c.as_slice-key-items.result.now c.loop-key-test.false
    ∙ c.as_slice-key-items.ensures.keys ∙ c.self.view_is

-- the next key is now the last of the copy
pub loop-key-preserved : goal.loop-key-preserved
loop-key-preserved g c =
    let keys : List g.row.K.Denot = c.as_slice-key-items.result.now in
    let distinct : IsDistinct g.K.PartialEq.eq keys =
    subst (IsDistinct g.K.PartialEq.eq) (sym c.as_slice-key-items.ensures.keys) c.self.invariant in
    let read : get_or keys c.loop-key.key-index c.key-item.result ≡ c.key-item.result = search rules in
    c.in_ok-insert.ensures.keys ∙ ap (λ copy. insert_key g.K.PartialEq.eq copy c.key-item.result) c.loop-key.invariant
    ∙ next_key g.met.K.Eq.laws keys c.loop-key.key-index c.key-item.result distinct c.loop-key-test.true read
