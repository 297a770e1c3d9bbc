-- What the walk has met only grows, and a name is met after its visit.
use Rattle.std.proofs.Common.{◌≡◌, Bool, true, false, List, ap, refl, subst, sym}
use Rattle.std.specs.Prelude.{◌||◌}
use Rattle.rc_names.specs.Numbers.{DeclarationId, ScopeId, same_id}
use Rattle.rc_names.proofs.NumbersLemmas.{ids_equivalence, same_id-eq}
use Rattle.rc_memo.specs.declared.record.MemoNode.{MemoNode}
use Rattle.rc_memo.specs.declared.record.MemoRecord.{MemoRecord}
use Rattle.rc_escape.specs.MemoWalk.{Progress, with_seen, with_memoized, with_taken}
use Rattle.rc_escape.specs.MemoWalk.{VisitsName, absent, again, first_time, VisitsNames, no_names, next_name}
use Rattle.rc_escape.specs.MemoWalk.{DecidesNode, passes, memoizes_it}
use Rattle.rc_escape.specs.MemoWalk.{TakesScopes, no_scopes, without_record, taken_before, takes_it}
use Rattle.rc_escape.specs.inside.WalkFrames.{IsMet}

-- what is met only grows
pub record Grows (s s1 : Progress) : Type 0 where
  pub seen : (d : DeclarationId) → s.seen d ≡ true → s1.seen d ≡ true
  pub memoized : (d : DeclarationId) → s.memoized d ≡ true → s1.memoized d ≡ true

pub grows_not : (s : Progress) → Grows s s
grows_not s = record { seen = λ d h. h; memoized = λ d h. h }

pub grows_then : {s s1 s2 : Progress} → Grows s s1 → Grows s1 s2 → Grows s s2
grows_then a b = record { seen = λ d h. b.seen d (a.seen d h); memoized = λ d h. b.memoized d (a.memoized d h) }

pub or_right : (a b : Bool) → b ≡ true → (a || b) ≡ true
or_right true b h = refl
or_right false b h = h

pub grows_seen : (s : Progress) (d : DeclarationId) → Grows s (with_seen s d)
grows_seen s d = record { seen = λ e h. or_right (same_id e d) (s.seen e) h; memoized = λ e h. h }

pub grows_memoized : (s : Progress) (d : DeclarationId) → Grows s (with_memoized s d)
grows_memoized s d = record { seen = λ e h. h; memoized = λ e h. or_right (same_id e d) (s.memoized e) h }

pub grows_taken : (s : Progress) (c : ScopeId) → Grows s (with_taken s c)
grows_taken s c = record { seen = λ e h. h; memoized = λ e h. h }

mutual
  pub grows_name : {r : MemoRecord} {d : DeclarationId} {f a : Bool} {s s1 : Progress} → VisitsName r d f s s1 a
      → Grows s s1
  grows_name {s = s} (absent none) = grows_not s
  grows_name {s = s} (again at seen is) = grows_not s
  grows_name {d = d} {s = s} (first_time at seen visits is decides) =
      grows_then (grows_seen s d) (grows_then (grows_names visits) (grows_decides decides))

  pub grows_names : {r : MemoRecord} {ds : List DeclarationId} {f a : Bool} {s s1 : Progress}
      → VisitsNames r ds f s s1 a → Grows s s1
  grows_names {s = s} no_names = grows_not s
  grows_names (next_name visit visits is) = grows_then (grows_name visit) (grows_names visits)

  pub grows_decides : {r : MemoRecord} {d : DeclarationId} {n : MemoNode} {a : Bool} {s s1 : Progress}
      → DecidesNode r d n a s s1 → Grows s s1
  grows_decides {s = s} passes = grows_not s
  grows_decides {d = d} {s = s} (memoizes_it takes) = grows_then (grows_memoized s d) (grows_takes takes)

  pub grows_takes : {r : MemoRecord} {cs : List ScopeId} {s s1 : Progress} → TakesScopes r cs s s1 → Grows s s1
  grows_takes {s = s} no_scopes = grows_not s
  grows_takes (without_record none rest) = grows_takes rest
  grows_takes (taken_before at taken rest) = grows_takes rest
  grows_takes {s = s} (takes_it {scope = c} at untaken visits rest) =
      grows_then (grows_taken s c) (grows_then (grows_names visits) (grows_takes rest))

-- a name that is met stays so, and each name is met after its visit
pub met_stays : (r : MemoRecord) {s s1 : Progress} (d : DeclarationId) → Grows s s1 → IsMet r s d → IsMet r s1 d
met_stays r d grows met n at = grows.seen d (met n at)

pub met_behind : {r : MemoRecord} {d : DeclarationId} {f a : Bool} {s s1 : Progress} → VisitsName r d f s s1 a
    → IsMet r s1 d
met_behind (absent none) = λ n at. cc
met_behind (again found seen is) = λ n at. seen
met_behind {d = d} {s = s} (first_time found unseen visits is decides) = λ n at.
    (grows_then (grows_names visits) (grows_decides decides)).seen d
    (ap (λ b. b || s.seen d) (ids_equivalence.refl d))

-- a name that counts as seen already
pub seen_again : (s : Progress) (d : DeclarationId) → s.seen d ≡ true → with_seen s d ≡ s
seen_again s d seen = λ i. record { seen = λ e. same e i; memoized = s.memoized; taken = s.taken }
  where
    same : (e : DeclarationId) → (same_id e d || s.seen e) ≡ s.seen e
    same e = go (same_id e d) refl
      where
        go : (b : Bool) → same_id e d ≡ b → (b || s.seen e) ≡ s.seen e
        go true h = sym (subst (λ w. s.seen w ≡ true) (sym (same_id-eq e d h)) seen)
        go false h = refl
