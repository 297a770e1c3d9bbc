-- Enter steps that don't change their part don't make it deeper.
use Rattle.std.proofs.Common.{◌≡◌, ◌≤◌, ℕ, Result, Ok, arith, ap, subst}
use Rattle.rc_hir.specs.Model.{Fault}
use Rattle.rc_tree.specs.RewriteSteps.{NoDeeper, EntersNoDeeper, goes_inside, skips, idle}

-- equal results of a step have equal parts
pub same_part : {A W X : Type 0} (a b : A) (w w1 : W) (x x1 : X)
    → ◌≡◌ {A = Result (A × (W × X)) Fault} (Ok (a, (w, x))) (Ok (b, (w1, x1))) → x ≡ x1
same_part {A = A} {W = W} {X = X} a b w w1 x x1 e =
    let p : ◌≡◌ {A = A × (W × X)} (a, (w, x)) (b, (w1, x1)) = cc in ap (λ q. q.1.1) p

same_size : {X : Type 0} (size : X → ℕ) (x x1 : X) → x ≡ x1 → size x1 ≤ size x
same_size size x x1 e = subst (λ y. size y ≤ size x) e (omega arith)

-- a step that goes inside, and one that skips
pub goes_inside_no_deeper : {W X : Type 0} (size : X → ℕ) → NoDeeper size (goes_inside {W = W} {X = X})
goes_inside_no_deeper size w w1 x x1 answer e = same_size size x x1 (same_part _ answer w w1 x x1 e)

pub skips_no_deeper : {W X : Type 0} (size : X → ℕ) → NoDeeper size (skips {W = W} {X = X})
skips_no_deeper size w w1 x x1 answer e = same_size size x x1 (same_part _ answer w w1 x x1 e)
