-- The state of the walk keeps fitting the record.
use Rattle.std.proofs.Common.{◌≡◌, ◌≢◌, ◌∙◌, ◌+◌, ◌<◌, ◌≤◌, inl, inr, ℕ, Bool, true, false, List, [], ◌∷◌}
use Rattle.std.proofs.Common.{Some, ap, arith, cond, eqb-true, length, refl, replicate, subst, sym}
use Rattle.std.specs.Prelude.{◌||◌, nat_eq, slice_get, slice_set}
use Rattle.std.specs.List.{IsDistinct, list_any}
use Rattle.std.specs.Map.{keys_of}
use Rattle.std.proofs.lemmas.Bool.{cases_eq, cases_lt}
use Rattle.std.proofs.lemmas.List.{length-replicate}
use Rattle.std.proofs.lemmas.Option.{slice_get_within}
use Rattle.rc_names.specs.Numbers.{DeclarationId, ScopeId, same_id}
use Rattle.rc_names.proofs.NumbersLemmas.{ids_equivalence}
use Rattle.rc_memo.specs.RowRecord.{operands_at, record_of_rows}
use Rattle.rc_memo.specs.declared.row_record.RowNode.{RowNode}
use Rattle.rc_memo.specs.declared.row_record.RowRecord.{RowRecord}
use Rattle.rc_escape.specs.declared.walk_state.NodeMark.TheVariants.{Unseen, Seen, Memoized}
use Rattle.rc_escape.specs.declared.walk_state.WalkState.{WalkState}
use Rattle.rc_escape.specs.MemoWalk.{nothing_met, with_seen, with_memoized}
use Rattle.rc_escape.specs.inside.RowUsers.{AreUsers, is_user}
use Rattle.rc_escape.specs.inside.WalkPlaces.{entry_at, entry_or, is_place_of, is_set, node_place, progress}
use Rattle.rc_escape.specs.inside.WalkPlaces.{says_memoized, says_seen, scope_place}
use Rattle.rc_escape.specs.inside.WalkFrames.{FitsRecord, IsMet, passed_of}
use Rattle.rc_escape.proofs.ListLemmas.{one_value}
use Rattle.rc_escape.proofs.MetGrows.{or_right}
use Rattle.rc_escape.proofs.PlaceLemmas.{entry_at-replicate, entry_or-past, entry_or-replicate, entry_or-set}
use Rattle.rc_escape.proofs.PlaceLemmas.{length-set}
use Rattle.rc_escape.proofs.PlaceLemmas.{place_of_distinct, place_of_same}
use Rattle.rc_escape.proofs.RecordPlaces.{memoized_more, seen_more, taken_more}
use Rattle.rc_escape.proofs.WorkLemmas.{operands_within}

none_passes : {X : Type 0} (xs : List X) → list_any (λ x. false) xs ≡ false
none_passes [] = refl
none_passes (x ∷ xs) = none_passes xs

one_passes : {X : Type 0} (p q : X → Bool) (xs : List X)
    → (list_any p xs || list_any q xs) ≡ list_any (λ x. p x || q x) xs
one_passes p q [] = refl
one_passes p q (x ∷ xs) = swap (p x) (q x) (list_any p xs) (list_any q xs)
    ∙ ap (λ w. (p x || q x) || w) (one_passes p q xs)
  where
    swap : (a b c d : Bool) → ((a || c) || (b || d)) ≡ ((a || b) || (c || d))
    swap true b c d = refl
    swap false true true d = refl
    swap false true false d = refl
    swap false false c d = refl

same_passes : {X : Type 0} (p q : X → Bool) (xs : List X) → ((x : X) → p x ≡ q x) → list_any p xs ≡ list_any q xs
same_passes p q xs same = ap (λ w. list_any w xs) (λ i. λ x. same x i)

module _ (r : RowRecord) where
  -- at the start nothing is met
  pub nothing_is_met : (s : WalkState) (n k : ℕ) → s.marks ≡ replicate n Unseen → s.taken ≡ replicate k false
      → progress r s ≡ nothing_met
  unfolding progress
  nothing_is_met s n k marks taken = λ i. record {
    seen = λ d. (ap (λ w. says_seen (entry_at Unseen w (node_place r d))) marks
        ∙ ap says_seen (entry_at-replicate Unseen n (node_place r d))) i;
    memoized = λ d. (ap (λ w. says_memoized (entry_at Unseen w (node_place r d))) marks
        ∙ ap says_memoized (entry_at-replicate Unseen n (node_place r d))) i;
    taken = λ c. (ap (λ w. entry_at false w (scope_place r c)) taken
        ∙ entry_at-replicate false k (scope_place r c)) i;
  }

  pub fits_at_start : (s : WalkState) (n k o : ℕ) → n ≡ length r.nodes → k ≡ length r.scopes → o ≡ length r.operands
      → s.marks ≡ replicate n Unseen → s.taken ≡ replicate k false → s.passed ≡ replicate o 0
      → s.answered ≡ replicate o false → AreUsers r s.users → IsDistinct same_id (keys_of r.nodes) → FitsRecord r s
  unfolding is_set
  fits_at_start s n k o nodes scopes operands marks taken passed answered users distinct = record {
    marks = ap length marks ∙ length-replicate n Unseen ∙ nodes;
    taken = ap length taken ∙ length-replicate k false ∙ scopes;
    passed = ap length passed ∙ length-replicate o 0 ∙ operands;
    answers = ap length answered ∙ length-replicate o false ∙ operands;
    users = users;
    met = λ row place operand lt at.
        absurd (omega (arith, lt, ap (λ w. entry_or 0 w row) passed, entry_or-replicate {X = ℕ} 0 o row));
    answered = λ row. ap (λ w. entry_or false w row) answered ∙ entry_or-replicate false o row
        ∙ sym (ap (λ w. list_any w.memoized (operands_at r.operands row)) (nothing_is_met s n k marks taken)
        ∙ none_passes (operands_at r.operands row));
    distinct = distinct;
  }

  -- a node is seen
  pub fits_seen : (s : WalkState) (d : DeclarationId) (p : ℕ) → FitsRecord r s → node_place r d ≡ Some p
      → p < length r.nodes → entry_or Unseen s.marks p ≡ Unseen
      → FitsRecord r (record s { marks = slice_set s.marks p Seen })
  fits_seen s d p fits at lt unseen =
      let more = seen_more r s d p at (omega (arith, lt, fits.marks)) unseen in record {
        marks = length-set s.marks p Seen ∙ fits.marks;
        taken = fits.taken;
        passed = fits.passed;
        answers = fits.answers;
        users = fits.users;
        met = λ row place operand below here node found.
            subst (λ w. w.seen operand ≡ true) (sym more)
            (or_right (same_id operand d) ((progress r s).seen operand)
            (fits.met row place operand below here node found));
        answered = λ row. fits.answered row
            ∙ sym (ap (λ w. list_any w.memoized (operands_at r.operands row)) more);
        distinct = fits.distinct;
      }

  pub seen_there : (s : WalkState) (d : DeclarationId) (p : ℕ) → FitsRecord r s → node_place r d ≡ Some p
      → p < length r.nodes → entry_or Unseen s.marks p ≡ Unseen
      → (progress r (record s { marks = slice_set s.marks p Seen })).seen d ≡ true
  seen_there s d p fits at lt unseen =
      ap (λ w. w.seen d) (seen_more r s d p at (omega (arith, lt, fits.marks)) unseen)
      ∙ ap (λ w. w || (progress r s).seen d) (ids_equivalence.refl d)

  -- a scope is taken
  pub fits_taken : (s : WalkState) (c : ScopeId) (q : ℕ) → FitsRecord r s → scope_place r c ≡ Some q
      → q < length r.scopes → FitsRecord r (record s { taken = slice_set s.taken q true })
  fits_taken s c q fits at lt =
      let more = taken_more r s c q at (omega (arith, lt, fits.taken)) in record {
        marks = fits.marks;
        taken = length-set s.taken q true ∙ fits.taken;
        passed = fits.passed;
        answers = fits.answers;
        users = fits.users;
        met = λ row place operand below here node found.
            subst (λ w. w.seen operand ≡ true) (sym more) (fits.met row place operand below here node found);
        answered = λ row. fits.answered row
            ∙ sym (ap (λ w. list_any w.memoized (operands_at r.operands row)) more);
        distinct = fits.distinct;
      }

  -- a node is memoized
  pub fits_memoized : (s t : WalkState) (d : DeclarationId) (n : RowNode) (p : ℕ) → FitsRecord r s
      → slice_get r.nodes p ≡ Some (d, n) → t.marks ≡ slice_set s.marks p Memoized → t.taken ≡ s.taken
      → t.passed ≡ s.passed → t.users ≡ s.users → length t.answered ≡ length s.answered
      → ((row : ℕ) → row < length s.answered
      → is_set t.answered row ≡ (is_user s.users p row || is_set s.answered row))
      → FitsRecord r t
  unfolding is_set
  fits_memoized s t d n p fits at marks taken passed users answers answered = record {
    marks = ap length marks ∙ length-set s.marks p Memoized ∙ fits.marks;
    taken = ap length taken ∙ fits.taken;
    passed = ap length passed ∙ fits.passed;
    answers = answers ∙ fits.answers;
    users = subst (AreUsers r) (sym users) fits.users;
    met = λ row place operand below here node found.
        subst (λ w. w.seen operand ≡ true) (sym more)
        (or_right (same_id operand d) ((progress r s).seen operand)
        (fits.met row place operand (subst (λ w. place < entry_or 0 w row) passed below) here node found));
    answered = λ row. elim (cases_lt row (length s.answered)) [
      | inl lt ↦ answered row lt ∙ within row
      | inr le ↦ past row le
    ];
    distinct = fits.distinct;
  }
    where
      lt_nodes : p < length r.nodes
      lt_nodes = slice_get_within r.nodes p (d, n) at

      place : node_place r d ≡ Some p
      place = place_of_distinct r.nodes p (d, n) fits.distinct at

      more : progress r t ≡ with_memoized (with_seen (progress r s) d) d
      more = memoized_more r s t d p place (omega (arith, lt_nodes, fits.marks)) marks taken

      within : (row : ℕ) → (is_user s.users p row || is_set s.answered row)
          ≡ list_any (progress r t).memoized (operands_at r.operands row)
      within row =
          let names = operands_at r.operands row in
          let old = (progress r s).memoized in
          ap (λ w. w || is_set s.answered row) (fits.users.exact p row lt_nodes)
          ∙ ap (λ w. list_any (is_place_of r p) names || w) (fits.answered row)
          ∙ ap (λ w. w || list_any old names)
          (same_passes (is_place_of r p) (λ e. same_id e d) names (place_of_same r.nodes d p place))
          ∙ one_passes (λ e. same_id e d) old names
          ∙ sym (ap (λ w. list_any w.memoized names) more)

      past : (row : ℕ) → length s.answered ≤ row
          → is_set t.answered row ≡ list_any (progress r t).memoized (operands_at r.operands row)
      past row le =
          entry_or-past false t.answered row (omega (arith, le, answers))
          ∙ sym (ap (list_any (progress r t).memoized)
          (entry_or-past [] r.operands row (omega (arith, le, fits.answers))))

  -- a row passes one more operand, which is met
  pub fits_passed : (s0 s : WalkState) (row j : ℕ) (d : DeclarationId) → FitsRecord r s → s.passed ≡ s0.passed
      → slice_get (operands_at r.operands row) (passed_of s0 row) ≡ Some d → j ≡ passed_of s0 row + 1
      → IsMet (record_of_rows r) (progress r s) d → FitsRecord r (record s { passed = slice_set s.passed row j })
  unfolding progress
  fits_passed s0 s row j d fits same at next met = record {
    marks = fits.marks;
    taken = fits.taken;
    passed = length-set s.passed row j ∙ fits.passed;
    answers = fits.answers;
    users = fits.users;
    met = λ other place operand below here. by other place operand here (nat_eq row other) refl
        (subst (λ w. place < w) (entry_or-set 0 j s.passed row other lt) below);
    answered = fits.answered;
    distinct = fits.distinct;
  }
    where
      count : passed_of s row ≡ passed_of s0 row
      count = ap (λ w. entry_or 0 w row) same

      lt : row < length s.passed
      lt = omega (arith, fits.passed, operands_within r.operands row (passed_of s0 row) d at)

      this : (place : ℕ) (operand : DeclarationId) → place < j
          → slice_get (operands_at r.operands row) place ≡ Some operand
          → IsMet (record_of_rows r) (progress r s) operand
      this place operand below here = elim (cases_eq place (passed_of s0 row)) [
        | inl last ↦
            subst (IsMet (record_of_rows r) (progress r s))
            (one_value here (subst (λ w. slice_get (operands_at r.operands row) w ≡ Some d) (sym last) at)) met
        | inr other ↦
            let before : place ≢ passed_of s0 row = other in
            fits.met row place operand (omega (arith, below, next, count, before)) here
      ]

      by : (other place : ℕ) (operand : DeclarationId) → slice_get (operands_at r.operands other) place ≡ Some operand
          → (b : Bool) → nat_eq row other ≡ b → place < cond b j (passed_of s other)
          → IsMet (record_of_rows r) (progress r s) operand
      by other place operand here true e below =
          this place operand below
          (subst (λ w. slice_get (operands_at r.operands w) place ≡ Some operand) (sym (eqb-true row other e)) here)
      by other place operand here false e below = fits.met other place operand below here

  -- what a row has passed makes no difference to what is met
  pub progress-passed : (s : WalkState) (counts : List ℕ)
      → progress r (record s { passed = counts }) ≡ progress r s
  unfolding progress
  progress-passed s counts = refl
