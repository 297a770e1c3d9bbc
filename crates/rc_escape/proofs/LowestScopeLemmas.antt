-- The lowest of a list of scopes, found one by one.
use Rattle.std.proofs.Common.{◌≡◌, ◌∙◌, ◌⊎◌, ◌+◌, ◌<◌, ◌≤◌, ◌++◌, inl, inr, ℕ, Bool, true, false, List, [], ◌∷◌, Option}
use Rattle.std.proofs.Common.{Some, None, Contains, ap, arith, cond, drop, length, refl, subst, sym, if◌then◌else◌}
use Rattle.std.specs.Prelude.{filter, flat_map, nat_lt, slice_get, MatchOption}
use Rattle.std.proofs.lemmas.Option.{slice_get_cases, slice_get_past}
use borrow.Author.Tests.{ltb-true, ltb-false}
use Rattle.rc_names.specs.Numbers.{DeclarationId, ScopeId}
use Rattle.rc_memo.specs.RowRecord.{node_of_rows, nodes_of_rows, record_of_rows}
use Rattle.rc_memo.specs.declared.row_record.RowNode.{RowNode}
use Rattle.rc_memo.specs.declared.row_record.RowRecord.{RowRecord}
use Rattle.rc_escape.specs.inside.LowestScope.{lacks, lower, lowest_of}
use Rattle.rc_escape.specs.MemoSet.{IsLowest, scopes_without_record}
use Rattle.rc_escape.proofs.ListLemmas.{Contains-cases, Contains-first, Contains-later, drop-at, drop-past}

lowest_of-append : (b : Option ScopeId) (xs ys : List ScopeId) → lowest_of b (xs ++ ys) ≡ lowest_of (lowest_of b xs) ys
lowest_of-append b [] ys = refl
lowest_of-append b (x ∷ xs) ys = lowest_of-append (lower b x) xs ys

-- the lowest so far, and the lowest of the scopes that are left
abbrev pub IsLowestSoFar : RowRecord → Option ScopeId → List ScopeId → ℕ → Option ScopeId → Type 0
IsLowestSoFar r first cs i now = lowest_of now (filter (lacks r) (drop i cs)) ≡ lowest_of first (filter (lacks r) cs)

pub lowest_so_far_next : (r : RowRecord) (first now next : Option ScopeId) (cs : List ScopeId) (i : ℕ) → i < length cs
    → ((c : ScopeId) → slice_get cs i ≡ Some c → next ≡ (if lacks r c then lower now c else now))
    → IsLowestSoFar r first cs i now → IsLowestSoFar r first cs (i + 1) next
lowest_so_far_next r first now next cs i lt step left = elim (slice_get_cases cs i).1 [
  | inl w ↦
      go w.0 (lacks r w.0) refl (step w.0 w.2)
      (sym (ap (λ v. lowest_of now (filter (lacks r) v)) (drop-at cs i (i + 1) w.0 w.2 refl)) ∙ left)
  | inr w ↦ absurd (omega arith)
]
  where
    both : (c : ScopeId) (b : Bool) → next ≡ (if b then lower now c else now)
        → lowest_of now (cond b (c ∷ filter (lacks r) (drop (i + 1) cs)) (filter (lacks r) (drop (i + 1) cs)))
        ≡ lowest_of first (filter (lacks r) cs) → IsLowestSoFar r first cs (i + 1) next
    both c true s h = ap (λ v. lowest_of v (filter (lacks r) (drop (i + 1) cs))) s ∙ h
    both c false s h = ap (λ v. lowest_of v (filter (lacks r) (drop (i + 1) cs))) s ∙ h

    go : (c : ScopeId) (b : Bool) → lacks r c ≡ b → next ≡ (if lacks r c then lower now c else now)
        → lowest_of now (cond (lacks r c) (c ∷ filter (lacks r) (drop (i + 1) cs)) (filter (lacks r) (drop (i + 1) cs)))
        ≡ lowest_of first (filter (lacks r) cs) → IsLowestSoFar r first cs (i + 1) next
    go c b e = both c (lacks r c)

pub lowest_so_far_end : (r : RowRecord) (first now : Option ScopeId) (cs : List ScopeId) (i : ℕ) → length cs ≤ i
    → IsLowestSoFar r first cs i now
    → now ≡ lowest_of first (filter (lacks r) cs)
lowest_so_far_end r first now cs i le left =
    sym (ap (λ v. lowest_of now (filter (lacks r) v)) (drop-past cs i (slice_get_past cs i le))) ∙ left

-- the scopes of a node without a record
abbrev missing_of : RowRecord → DeclarationId × RowNode → List ScopeId
missing_of r entry = filter (lacks r) entry.1.scopes

-- the scopes of the nodes without a record
unfoldable pub missing_scopes : RowRecord → List ScopeId
missing_scopes r = flat_map (missing_of r) r.nodes

pub missing_scopes_are : (r : RowRecord) → missing_scopes r ≡ scopes_without_record (record_of_rows r)
unfolding missing_scopes record_of_rows node_of_rows
missing_scopes_are r = go r.nodes
  where
    go : (es : List (DeclarationId × RowNode)) → flat_map (missing_of r) es
        ≡ flat_map (λ entry. filter (lacks r) entry.1.scopes) (nodes_of_rows r.operands es)
    go [] = refl
    go (e ∷ es) = ap (λ w. missing_of r e ++ w) (go es)

-- the same over the nodes
abbrev pub IsLowestOfNodesSoFar : RowRecord → ℕ → Option ScopeId → Type 0
IsLowestOfNodesSoFar r i now = lowest_of now (flat_map (missing_of r) (drop i r.nodes))
    ≡ lowest_of None (missing_scopes r)

pub lowest_of_nodes_next : (r : RowRecord) (now next : Option ScopeId) (i : ℕ) → i < length r.nodes
    → ((e : DeclarationId × RowNode) → slice_get r.nodes i ≡ Some e
    → next ≡ lowest_of now (filter (lacks r) e.1.scopes))
    → IsLowestOfNodesSoFar r i now → IsLowestOfNodesSoFar r (i + 1) next
lowest_of_nodes_next r now next i lt step left = elim (slice_get_cases r.nodes i).1 [
  | inl w ↦ ap (λ v. lowest_of v (flat_map (missing_of r) (drop (i + 1) r.nodes))) (step w.0 w.2)
      ∙ sym (lowest_of-append now (missing_of r w.0) (flat_map (missing_of r) (drop (i + 1) r.nodes)))
      ∙ sym (ap (λ v. lowest_of now (flat_map (missing_of r) v)) (drop-at r.nodes i (i + 1) w.0 w.2 refl)) ∙ left
  | inr w ↦ absurd (omega arith)
]

pub lowest_of_nodes_start : (r : RowRecord) → IsLowestOfNodesSoFar r 0 None
unfolding missing_scopes
lowest_of_nodes_start r = refl

pub lowest_of_nodes_end : (r : RowRecord) (now : Option ScopeId) (i : ℕ) → length r.nodes ≤ i
    → IsLowestOfNodesSoFar r i now
    → now ≡ lowest_of None (scopes_without_record (record_of_rows r))
lowest_of_nodes_end r now i le left =
    sym (ap (λ v. lowest_of now (flat_map (missing_of r) v)) (drop-past r.nodes i (slice_get_past r.nodes i le))) ∙ left
    ∙ ap (lowest_of None) (missing_scopes_are r)

-- the scope is the first or in the list, and none of them is lower
record IsLowestOf (b c : ScopeId) (cs : List ScopeId) : Type 0 where
  among : (c ≡ b) ⊎ Contains cs c
  first : c.0 ≤ b.0
  rest : (d : ScopeId) → Contains cs d → c.0 ≤ d.0

lowest_among : (x c : ScopeId) (xs : List ScopeId) → c.0 ≤ x.0 → ((d : ScopeId) → Contains xs d → c.0 ≤ d.0)
    → (d : ScopeId) → Contains (x ∷ xs) d → c.0 ≤ d.0
lowest_among x c xs f r d i =
    elim (Contains-cases x d xs i) [ inl same ↦ subst (λ v. c.0 ≤ v.0) same f | inr later ↦ r d later ]

found_among : (x c : ScopeId) (xs : List ScopeId) → (c ≡ x) ⊎ Contains xs c → Contains (x ∷ xs) c
found_among x c xs i =
    elim i [
      | inl same ↦ subst (λ v. Contains (x ∷ xs) v) (sym same) (Contains-first x xs)
      | inr later ↦
          Contains-later x c xs later
    ]

lowest_from : (b : ScopeId) (cs : List ScopeId) → (c : ScopeId) × (lowest_of (Some b) cs ≡ Some c) × IsLowestOf b c cs
lowest_from b [] =
    (b, refl, record { among = inl refl; first = omega arith; rest = λ d i. absurd (omega (arith, i.1)) })
lowest_from b (x ∷ xs) = go (nat_lt x.0 b.0) refl (lowest_from x xs) (lowest_from b xs)
  where
    go : (t : Bool) → nat_lt x.0 b.0 ≡ t → (c : ScopeId) × (lowest_of (Some x) xs ≡ Some c) × IsLowestOf x c xs
        → (c : ScopeId) × (lowest_of (Some b) xs ≡ Some c) × IsLowestOf b c xs
        → (c : ScopeId) × (lowest_of (if t then Some x else Some b) xs ≡ Some c) × IsLowestOf b c (x ∷ xs)
    go true e p q = (
      p.0,
      p.1,
      record {
        among = inr (found_among x p.0 xs p.2.among);
        first = omega (arith, ltb-true x.0 b.0 e, p.2.first);
        rest = lowest_among x p.0 xs p.2.first p.2.rest;
      },
    )
    go false e p q = (
      q.0,
      q.1,
      record {
        among = elim q.2.among as
            (λ v. (q.0 ≡ b) ⊎ Contains (x ∷ xs) q.0) [ inl s ↦ inl s | inr i ↦ inr (Contains-later x q.0 xs i) ];
        first = q.2.first;
        rest = lowest_among x q.0 xs (omega (arith, ltb-false x.0 b.0 e, q.2.first)) q.2.rest;
      },
    )

lowest_of_list : (cs : List ScopeId) (result : Option ScopeId) → result ≡ lowest_of None cs
    → MatchOption result (cs ≡ []) (IsLowest cs)
lowest_of_list [] result e = subst (λ v. MatchOption v (◌≡◌ {A = List ScopeId} [] []) (IsLowest [])) (sym e) refl
lowest_of_list (x ∷ xs) result e =
    let l = lowest_from x xs in
    subst (λ v. MatchOption v (x ∷ xs ≡ []) (IsLowest (x ∷ xs))) (sym (e ∙ l.1)) record {
      among = found_among x l.0 xs l.2.among;
      lowest = lowest_among x l.0 xs l.2.first l.2.rest;
    }

pub lowest_is : (r : RowRecord) (result : Option ScopeId)
    → result ≡ lowest_of None (scopes_without_record (record_of_rows r))
    → MatchOption result (scopes_without_record (record_of_rows r) ≡ [])
    (λ scope. IsLowest (scopes_without_record (record_of_rows r)) scope)
lowest_is r result e = lowest_of_list (scopes_without_record (record_of_rows r)) result e
