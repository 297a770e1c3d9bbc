-- The stronger of two levels is a join: commutative, associative and idempotent, and `Never` is its unit.
use Rattle.std.proofs.Common.{◌≡◌, refl, subst, sym, arith}
use Rattle.rc_memo.specs.Level.{stronger}
use Rattle.rc_memo.specs.declared.level.MemoizationLevel.{MemoizationLevel}
use Rattle.rc_memo.specs.declared.level.MemoizationLevel.TheVariants.{Memoized, Conditional, Unmemoized, Never}

pub stronger_commutes : (a b : MemoizationLevel) → stronger a b ≡ stronger b a
stronger_commutes Memoized Memoized = refl
stronger_commutes Memoized Conditional = refl
stronger_commutes Memoized Unmemoized = refl
stronger_commutes Memoized Never = refl
stronger_commutes Conditional Memoized = refl
stronger_commutes Conditional Conditional = refl
stronger_commutes Conditional Unmemoized = refl
stronger_commutes Conditional Never = refl
stronger_commutes Unmemoized Memoized = refl
stronger_commutes Unmemoized Conditional = refl
stronger_commutes Unmemoized Unmemoized = refl
stronger_commutes Unmemoized Never = refl
stronger_commutes Never Memoized = refl
stronger_commutes Never Conditional = refl
stronger_commutes Never Unmemoized = refl
stronger_commutes Never Never = refl

pub stronger_same : (a b : MemoizationLevel) → a ≡ b → stronger a b ≡ a
stronger_same a b same = subst (λ c. stronger a c ≡ a) same (go a)
  where
    go : (c : MemoizationLevel) → stronger c c ≡ c
    go Memoized = refl
    go Conditional = refl
    go Unmemoized = refl
    go Never = refl

pub stronger_never : (a b : MemoizationLevel) → b ≡ Never → stronger a b ≡ a
stronger_never a b never = subst (λ c. stronger a c ≡ a) (sym never) (go a)
  where
    go : (c : MemoizationLevel) → stronger c Never ≡ c
    go Memoized = refl
    go Conditional = refl
    go Unmemoized = refl
    go Never = refl

pub stronger_associates : (a b c : MemoizationLevel) → stronger (stronger a b) c ≡ stronger a (stronger b c)
stronger_associates a b c = grind arith

pub ruleset laws = (stronger_commutes, stronger_associates, stronger_same, stronger_never)

pub never_stronger : (level : MemoizationLevel) → stronger Never level ≡ level
never_stronger Memoized = refl
never_stronger Conditional = refl
never_stronger Unmemoized = refl
never_stronger Never = refl
