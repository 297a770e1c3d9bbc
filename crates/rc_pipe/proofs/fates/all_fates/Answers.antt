use Rattle.std.proofs.Common.{◌≡◌, ◌++◌, ap, subst, sym, ◌∙◌}
use Rattle.std.specs.Map.{lookup}
use Rattle.rc_names.specs.Numbers.{same_id, to_id}
use Rattle.rc_tree.specs.declared.fate.Fate.TheVariants.{Kept}
use Rattle.rc_pipe.proofs.FatesLemmas.{fates_more}
use Rattle.rc_pipe.specs.Fates.{listed_scopes}
use Rattle.rc_pipe.specs.inside.ListedFates.{decided_or, scopes_of}
use Rattle.rc_pipe.proofs.fates.all_fates.Goals as goal

-- one more scope, with its fate
pub loop-number-preserved : goal.loop-number-preserved
loop-number-preserved c =
    let numbers = c.args.numbers.now.keys in
    let fates = c.loop-number.fates in
    let whole = subst (λ left. listed_scopes fates ++ scopes_of left ≡ scopes_of numbers) c.in-Some.ensures.steps
    c.loop-number.invariant.0 in
    rw c.in_ok-push.ensures.ok
    (fates_more c.args.decided.now fates c.fate_of.result (to_id c.in-Some.number.now)
    (scopes_of c.next.new.self) (scopes_of numbers) (c.fate_of.ensures.scope ∙ ap to_id c.new.ensures)
    (c.fate_of.ensures.told ∙ ap (λ id. decided_or (lookup (same_id id) c.args.decided.now) Kept)
    (sym c.fate_of.ensures.scope)) (whole, c.loop-number.invariant.1))
