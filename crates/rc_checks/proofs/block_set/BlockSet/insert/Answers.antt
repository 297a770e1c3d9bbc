use Rattle.std.proofs.Common.{◌≡◌, ◌||◌, ◌∙◌, ℕ, Bool, true, false, List, cond, refl, ap, sym}
use Rattle.std.specs.Cmp.{nat_cmp_total, nat_eq_equiv, unsigned_tied}
use Rattle.std.specs.FinSet as set
use Rattle.std.specs.List.{list_any}
use Rattle.std.specs.Ordering.{eq_by_cmp, nat_cmp}
use Rattle.rc_checks.proofs.block_set.BlockSet.insert.Goals as goal

abbrev is_key : List ℕ → ℕ → Bool
is_key keys q = list_any (eq_by_cmp nat_cmp q) keys

either : (block q : ℕ) (b : Bool) → cond (eq_by_cmp nat_cmp block q) true b ≡ (eq_by_cmp nat_cmp q block || b)
either block q b =
    by (eq_by_cmp nat_cmp block q)
    ∙ ap (λ same. same || b) (unsigned_tied block q ∙ nat_eq_equiv.symm block q ∙ sym (unsigned_tied q block))
  where
    by : (same : Bool) → cond same true b ≡ (same || b)
    by true = refl
    by false = refl

-- two sets with the same numbers are one
inserted : (old new : List ℕ) (block : ℕ)
    → ((q : ℕ) → is_key new q ≡ cond (eq_by_cmp nat_cmp block q) true (is_key old q))
    → set.from_list {R = nat_cmp} new ≡ set.insert (set.from_list old) block
inserted old new block added = set.same_set nat_cmp_total set.nat_cmp-IsAntisymmetric _ _ (λ q.
    set.contains-from_list nat_cmp_total new q ∙ added q ∙ either block q (is_key old q)
    ∙ ap (λ b. eq_by_cmp nat_cmp q block || b) (sym (set.contains-from_list nat_cmp_total old q))
    ∙ sym (set.contains-insert nat_cmp_total (set.from_list old) block q))

pub returns-clause-ok : goal.returns-clause-ok
returns-clause-ok c =
    inserted c.self.inside.numbers.keys c.insert.new.self.keys c.args.block.0 c.in_ok-insert.ensures.updates.0
    ∙ ap (λ blocks. set.insert blocks c.args.block.0) c.self.view_is
