-- The walk memoizes the least set: dependencies of a name that it has visited are visited, and a name of level Memoized
-- that it has visited is memoized.
use Rattle.std.proofs.Common.{◌≡◌, ◌∙◌, inl, inr, Bool, true, false, List, Some, Contains, ap, arith, refl, subst, sym}
use Rattle.std.specs.Prelude.{◌||◌}
use Rattle.rc_names.specs.Numbers.{DeclarationId, ScopeId, same_id}
use Rattle.rc_names.proofs.NumbersLemmas.{ids_equivalence, same_id-eq}
use Rattle.rc_memo.specs.declared.level.MemoizationLevel.{MemoizationLevel}
use Rattle.rc_memo.specs.declared.level.MemoizationLevel.TheVariants.{Memoized}
use Rattle.rc_memo.specs.declared.record.MemoNode.{MemoNode}
use Rattle.rc_memo.specs.declared.record.MemoRecord.{MemoRecord}
use Rattle.rc_escape.specs.MemoWalk.{memoizes, node_of, nothing_met, Progress, with_seen, with_taken}
use Rattle.rc_escape.specs.MemoWalk.{VisitsName, absent, again, first_time, VisitsNames, no_names, next_name}
use Rattle.rc_escape.specs.MemoWalk.{DecidesNode, passes, memoizes_it}
use Rattle.rc_escape.specs.MemoWalk.{TakesScopes, no_scopes, without_record, taken_before, takes_it}
use Rattle.rc_escape.specs.MemoBounds.{IsNeeded, escapes, by_dependency, IsInLeastSet}
use Rattle.rc_escape.specs.inside.WalkFrames.{IsMet}
use Rattle.rc_escape.proofs.ListLemmas.{Contains-cases, one_value}
use Rattle.rc_escape.proofs.MetGrows.{Grows, grows_decides, grows_names, grows_takes, grows_then}

-- the walk has left a node: its dependencies are visited, and at level Memoized it is memoized
record IsLeft (r : MemoRecord) (s : Progress) (d : DeclarationId) (n : MemoNode) : Type 0 where
  dependencies : (e : DeclarationId) → Contains n.dependencies e → IsMet r s e
  level : n.level ≡ Memoized → s.memoized d ≡ true

-- each node that is visited after and not before is left
abbrev Leaves : MemoRecord → Progress → Progress → Type 0
Leaves r s s1 = (d : DeclarationId) (n : MemoNode) → node_of r d ≡ Some n → s.seen d ≡ false → s1.seen d ≡ true
    → IsLeft r s1 d n

left_grows : {r : MemoRecord} {s s1 : Progress} {d : DeclarationId} {n : MemoNode} → Grows s s1 → IsLeft r s d n
    → IsLeft r s1 d n
left_grows {d = d} grows left =
    record {
      dependencies = λ e i n at. grows.seen e (left.dependencies e i n at);
      level =
          λ h. grows.memoized d (left.level h);
    }

leaves_then : (r : MemoRecord) (s s1 s2 : Progress) → Leaves r s s1 → Grows s1 s2 → Leaves r s1 s2 → Leaves r s s2
leaves_then r s s1 s2 a grows b d n at before after = go (s1.seen d) refl
  where
    go : (t : Bool) → s1.seen d ≡ t → IsLeft r s2 d n
    go true e = left_grows grows (a d n at before e)
    go false e = b d n at e after

leaves_none : {r : MemoRecord} (s s1 : Progress) → ((d : DeclarationId) → s1.seen d ≡ s.seen d) → Leaves r s s1
leaves_none s s1 same d n at before after = cc (same d)

-- the node at hand is left itself, or a node is one of the others
own_or_other : (r : MemoRecord) (d e : DeclarationId) (n m : MemoNode) (s t : Progress) → node_of r d ≡ Some n
    → node_of r e ≡ Some m → IsLeft r t d n → s.seen e ≡ false
    → ((with_seen s d).seen e ≡ false → IsLeft r t e m) → IsLeft r t e m
own_or_other r d e n m s t at at' own before other = go (same_id e d) refl
  where
    go : (b : Bool) → same_id e d ≡ b → IsLeft r t e m
    go true h =
        let same : d ≡ e = sym (same_id-eq e d h) in
        let value : n ≡ m = one_value at' (subst (λ x. node_of r x ≡ Some n) same at) in
        subst (λ x. IsLeft r t e x) value (subst (λ x. IsLeft r t x n) same own)
    go false h = other (ap (λ b. b || s.seen e) h ∙ before)

decides_memoized : {r : MemoRecord} {d : DeclarationId} {n : MemoNode} {a : Bool} {s s1 : Progress}
    → DecidesNode r d n a s s1 → a ≡ true → s1.memoized d ≡ true
decides_memoized passes h = cc
decides_memoized {d = d} {s = s} (memoizes_it takes) h =
    (grows_takes takes).memoized d (ap (λ b. b || s.memoized d) (ids_equivalence.refl d))

level_memoizes : (l : MemoizationLevel) (f c : Bool) → l ≡ Memoized → memoizes l f c ≡ true
level_memoizes l f c e = subst (λ x. memoizes x f c ≡ true) (sym e) refl

mutual
  -- a name is met after its visit, and the nodes that were visited are left
  leaves_name : {r : MemoRecord} {d : DeclarationId} {f a : Bool} {s s1 : Progress} → VisitsName r d f s s1 a
      → IsMet r s1 d × Leaves r s s1
  leaves_name {s = s} (absent none) = (λ n h. cc, leaves_none s s (λ e. refl))
  leaves_name {s = s} (again at seen is) = (λ m h. seen, leaves_none s s (λ e. refl))
  leaves_name {r} {d} {f} {a} {s} {s1 = t}
      (first_time {node = n} {needs_one = c} {visited = s1} at seen visits is decides) =
      let inner = leaves_names visits in
      let grown = grows_then (grows_names visits) (grows_decides decides) in
      let mine : t.seen d ≡ true = grown.seen d (ap (λ b. b || s.seen d) (ids_equivalence.refl d)) in
      let both = leaves_then r (with_seen s d) s1 t inner.1 (grows_decides decides) (leaves_decides decides) in
      let own : IsLeft r t d n = record {
        dependencies = λ e i m h. (grows_decides decides).seen e (inner.0 e i m h);
        level = λ h. decides_memoized decides (is ∙ level_memoizes n.level f c h);
      } in (λ m h. mine, λ e m h before after. own_or_other r d e n m s t at h own before (λ b. both e m h b after))

  leaves_names : {r : MemoRecord} {ds : List DeclarationId} {f a : Bool} {s s1 : Progress} → VisitsNames r ds f s s1 a
      → ((e : DeclarationId) → Contains ds e → IsMet r s1 e) × Leaves r s s1
  leaves_names {s = s} no_names = (λ e i. absurd (omega (arith, i.1)), leaves_none s s (λ e. refl))
  leaves_names {r} {s = s} {s1 = t} (next_name {name = d} {names = ds} {visited = s1} visit visits is) =
      let first = leaves_name visit in
      let rest = leaves_names visits in (
        λ e i. elim
            (Contains-cases d e ds i) [
              | inl same ↦ subst (IsMet r t) same (λ n at. (grows_names visits).seen d (first.0 n at))
              | inr later ↦
                  rest.0 e later
            ],
        leaves_then r s s1 t first.1 (grows_names visits) rest.1,
      )

  leaves_decides : {r : MemoRecord} {d : DeclarationId} {n : MemoNode} {a : Bool} {s s1 : Progress}
      → DecidesNode r d n a s s1 → Leaves r s s1
  leaves_decides {s = s} passes = leaves_none s s (λ e. refl)
  leaves_decides (memoizes_it takes) = leaves_takes takes

  leaves_takes : {r : MemoRecord} {cs : List ScopeId} {s s1 : Progress} → TakesScopes r cs s s1 → Leaves r s s1
  leaves_takes {s = s} no_scopes = leaves_none s s (λ e. refl)
  leaves_takes (without_record none rest) = leaves_takes rest
  leaves_takes (taken_before at taken rest) = leaves_takes rest
  leaves_takes {r} {s = s} {s1 = t} (takes_it {scope = c} {visited = s1} at untaken visits rest) =
      leaves_then r (with_taken s c) s1 t (leaves_names visits).1 (grows_takes rest) (leaves_takes rest)

-- a needed name is met
needed_met : {r : MemoRecord} {t : Progress} {a : Bool} → VisitsNames r r.escaping false nothing_met t a
    → {d : DeclarationId} → IsNeeded r d → IsMet r t d
needed_met walk (escapes {name = d} i) = (leaves_names walk).0 d i
needed_met {r} walk (by_dependency {name = d} {needed = e} {node = n} needed at i) =
    ((leaves_names walk).1 d n at refl (needed_met walk needed n at)).dependencies e i

-- what has to be memoized is memoized
pub least_is_memoized : {r : MemoRecord} {t : Progress} {a : Bool} → VisitsNames r r.escaping false nothing_met t a
    → (d : DeclarationId) → IsInLeastSet r d → t.memoized d ≡ true
least_is_memoized walk d least =
    ((leaves_names walk).1 d least.node least.is_node refl
    (needed_met walk least.needed least.node least.is_node)).level least.level
