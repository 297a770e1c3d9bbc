use Rattle.std.proofs.Common.{sym, subst}
use Rattle.rc_early.specs.inside.Growing.{Grows}
use Rattle.rc_early.proofs.GrowsLemmas.{block_grows, entry_grows, grows_on, numbered_below}
use Rattle.rc_early.proofs.entries.add_early_return.Goals as goal

pub returns-in_err-add_temporaries-clause-grows : goal.returns-in_err-add_temporaries-clause-grows
returns-in_err-add_temporaries-clause-grows c = grows_on _ _ _ c.add_variable.ensures.grows
    c.add_temporaries.ensures.grows

pub returns-in_err-set_early_return-clause-grows : goal.returns-in_err-set_early_return-clause-grows
returns-in_err-set_early_return-clause-grows c =
    subst (Grows c.args.env.now) (sym c.in_err-set_early_return.ensures.err)
    (grows_on _ _ _ (grows_on _ _ _ c.add_variable.ensures.grows c.add_temporaries.ensures.grows)
    (subst (Grows c.add_temporaries.new.env) (sym c.in_ok-next_block_id.ensures.ok)
    (block_grows c.add_temporaries.new.env)))

pub returns-clause-grows : goal.returns-clause-grows
returns-clause-grows c =
    let before = c.next_block_id.new.self in
    let block = subst (Grows c.add_temporaries.new.env) (sym c.in_ok-next_block_id.ensures.ok)
    (block_grows c.add_temporaries.new.env) in
    let since = grows_on _ _ _ c.add_temporaries.ensures.grows block in
    let below = numbered_below c.args.early.now.entry.span c.args.env.now before
    (subst (λ e. Grows e before) c.in_ok-add_variable.ensures.ok since) c.args.early.now.entry.value.0
    c.requires.numbered in
    subst (Grows c.args.env.now) (sym c.in_ok-set_early_return.ensures.ok)
    (grows_on _ _ _ (grows_on _ _ _ c.add_variable.ensures.grows since) (entry_grows before c.args.early.now below))
