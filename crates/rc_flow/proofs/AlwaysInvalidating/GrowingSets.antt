-- The sets of names to which the steps add names: which names are in one afterwards.
use Rattle.std.proofs.Common.{◌≡◌, ◌∙◌, ◌⊎◌, Bool, true, false, List, [], ◌∷◌, ◌++◌, inl, inr, Some, map, refl}
use Rattle.std.proofs.Common.{sym, ap, subst, if◌then◌else◌, true≢false}
use Rattle.std.proofs.lemmas.Bool.{or_cases, or_left, or_right}
use Rattle.rc_hir.specs.Model.{DeclarationEntry, ReactiveScope}
use Rattle.rc_names.specs.Numbers.{IdentifierId, is_among, same_id}
use Rattle.rc_names.proofs.NumbersLemmas.{same_id-eq}
use Rattle.rc_flow.specs.Reached.{outputs_if}
use Rattle.rc_flow.specs.inside.Marks.{with_copy, with_declared, with_if_among, with_name, with_reassigned}
use Rattle.rc_flow.specs.inside.Spread.{Names}
use Rattle.rc_flow.proofs.SetLemmas.{In, in_itself, insert_cases, insert_new, insert_old}

-- a name that is copied
module _ (from to : IdentifierId) (set : Names) where
  pub copy_cases : (n : IdentifierId) → In n (with_copy from to set) → In n set ⊎ (In from set × (n ≡ to))
  copy_cases n = by (is_among set from) refl
    where
      by : (b : Bool) → is_among set from ≡ b → In n (if b then with_name to set else set)
          → In n set ⊎ (In from set × (n ≡ to))
      by true e h = elim (insert_cases set to n h) [ inl o ↦ inl o | inr is ↦ inr (e, is) ]
      by false e h = inl h

  pub copy_old : (n : IdentifierId) → In n set → In n (with_copy from to set)
  copy_old n h = by (is_among set from)
    where
      by : (b : Bool) → In n (if b then with_name to set else set)
      by true = insert_old set to n h
      by false = h

  pub copy_new : In from set → In to (with_copy from to set)
  copy_new h = by (is_among set from) h
    where
      by : (b : Bool) → b ≡ true → In to (if b then with_name to set else set)
      by true e = insert_new set to
      by false e = absurd (true≢false (sym e))

-- a name that is put into the set if it is among others
module _ (others : Names) (x : IdentifierId) (set : Names) where
  one_cases : (n : IdentifierId) → In n (with_if_among others x set) → In n set ⊎ ((n ≡ x) × In n others)
  one_cases n = by (is_among others x) refl
    where
      by : (b : Bool) → is_among others x ≡ b → In n (if b then with_name x set else set)
          → In n set ⊎ ((n ≡ x) × In n others)
      by true e h = elim (insert_cases set x n h) [
        | inl o ↦ inl o
        | inr is ↦ inr (is, subst (λ y. In y others) (sym is) e)
      ]
      by false e h = inl h

  one_old : (n : IdentifierId) → In n set → In n (with_if_among others x set)
  one_old n h = by (is_among others x)
    where
      by : (b : Bool) → In n (if b then with_name x set else set)
      by true = insert_old set x n h
      by false = h

  one_new : In x others → In x (with_if_among others x set)
  one_new h = by (is_among others x) h
    where
      by : (b : Bool) → b ≡ true → In x (if b then with_name x set else set)
      by true e = insert_new set x
      by false e = absurd (true≢false (sym e))

-- many names
pub among_cases : (others names set : Names) (n : IdentifierId) → In n (with_reassigned others names set)
    → In n set ⊎ (In n names × In n others)
among_cases others [] set n h = inl h
among_cases others (x ∷ xs) set n h = elim (among_cases others xs (with_if_among others x set) n h) [
  | inl k ↦ elim (one_cases others x set n k) [
    | inl o ↦ inl o
    | inr p ↦ inr
        (or_left (same_id n x) (is_among xs n) (subst (λ y. same_id n y ≡ true) p.0 (in_itself n)), p.1)
  ]
  | inr p ↦ inr (or_right (same_id n x) (is_among xs n) p.0, p.1)
]

pub among_old : (others names set : Names) (n : IdentifierId) → In n set → In n (with_reassigned others names set)
among_old others [] set n h = h
among_old others (x ∷ xs) set n h = among_old others xs (with_if_among others x set) n (one_old others x set n h)

pub among_new : (others names set : Names) (n : IdentifierId) → In n names → In n others
    → In n (with_reassigned others names set)
among_new others [] set n h k = absurd (true≢false (sym h))
among_new others (x ∷ xs) set n h k = elim (or_cases (same_id n x) (is_among xs n) h) [
  | inl e ↦
      let is : n ≡ x = same_id-eq n x e in
      among_old others xs (with_if_among others x set) n
      (subst (λ y. In y (with_if_among others x set)) (sym is) (one_new others x set (subst (λ y. In y others) is k)))
  | inr m ↦ among_new others xs (with_if_among others x set) n m k
]

declared_names : (others : Names) (all : List DeclarationEntry) (set : Names) → with_declared others all set
    ≡ with_reassigned others (map (λ (e : DeclarationEntry). e.value.identifier) all) set
declared_names others [] set = refl
declared_names others (x ∷ xs) set = declared_names others xs _

reassigned-append : (others names more set : Names) → with_reassigned others (names ++ more) set
    ≡ with_reassigned others more (with_reassigned others names set)
reassigned-append others [] more set = refl
reassigned-append others (x ∷ xs) more set = reassigned-append others xs more _

pub outputs_in : (scope : ReactiveScope) (others set : Names)
    → with_reassigned others scope.reassignments (with_declared others scope.declarations set)
    ≡ with_reassigned others (outputs_if (Some scope)) set
outputs_in scope others set =
    ap (with_reassigned others scope.reassignments) (declared_names others scope.declarations set)
    ∙ sym (reassigned-append others (map (λ (e : DeclarationEntry). e.value.identifier) scope.declarations)
    scope.reassignments set)
