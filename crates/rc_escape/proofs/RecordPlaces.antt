-- Names and scopes by their positions in the record: what one more of them that the walk has met, memoized or taken is,
-- and which one is at a position.
use Rattle.std.proofs.Common.{◌≡◌, ◌∙◌, ◌<◌, ℕ, Bool, true, false, List, [], ◌∷◌, Option, Some, None, ap, cond, length}
use Rattle.std.proofs.Common.{refl, subst, sym}
use Rattle.std.specs.Prelude.{◌||◌, option_map, position, slice_get, slice_set}
use Rattle.std.specs.Map.{keys_of}
use Rattle.std.proofs.lemmas.Option.{slice_get-map}
use Rattle.rc_names.specs.Numbers.{DeclarationId, ScopeId, same_id}
use Rattle.rc_names.proofs.NumbersLemmas.{same_id-eq}
use Rattle.rc_memo.specs.RowRecord.{node_of_rows, nodes_of_rows, record_of_rows}
use Rattle.rc_memo.specs.declared.row_record.RowNode.{RowNode}
use Rattle.rc_memo.specs.declared.row_record.RowRecord.{RowRecord}
use Rattle.rc_escape.specs.declared.walk_state.NodeMark.{NodeMark}
use Rattle.rc_escape.specs.declared.walk_state.NodeMark.TheVariants.{Unseen, Seen, Memoized}
use Rattle.rc_escape.specs.declared.walk_state.WalkState.{WalkState}
use Rattle.rc_escape.specs.MemoWalk.{dependencies_of, node_of, with_seen, with_memoized, with_taken}
use Rattle.rc_escape.specs.inside.WalkPlaces.{entry_at, entry_or, is_set, mark_of, node_place, scope_place, progress}
use Rattle.rc_escape.specs.inside.WalkPlaces.{IsNodeAt, IsScopeAt, says_memoized, says_seen}
use Rattle.rc_escape.proofs.ListLemmas.{one_value}
use Rattle.rc_escape.proofs.PlaceLemmas.{absent_without_place, entry_puts, key_at_place, value_at_place}

-- one entry has one name and one value
pub same_entry : {X Y : Type 0} {o : Option (X × Y)} (x x' : X) (y y' : Y) → o ≡ Some (x, y) → o ≡ Some (x', y')
    → (x' ≡ x) × (y' ≡ y)
same_entry {X} {Y} x x' y y' f g =
    let same : ◌≡◌ {A = X × Y} (x', y') (x, y) = one_value f g in (ap (λ e. e.0) same, ap (λ e. e.1) same)

module _ (ops : List (List DeclarationId)) where
  -- the record has the names of the rows
  keys_of_rows : (es : List (DeclarationId × RowNode)) → keys_of (nodes_of_rows ops es) ≡ keys_of es
  keys_of_rows [] = refl
  keys_of_rows (e ∷ es) = ap (λ w. e.0 ∷ w) (keys_of_rows es)

module _ (r : RowRecord) where
  -- the node at a position, and a name without a position
  pub node_is : (d k : DeclarationId) (p : ℕ) (n : RowNode) → node_place r d ≡ Some p
      → slice_get r.nodes p ≡ Some (k, n) → node_of (record_of_rows r) d ≡ Some (node_of_rows r.operands k n)
  unfolding record_of_rows
  node_is d k p n at entry =
      value_at_place (nodes_of_rows r.operands r.nodes) d p (k, node_of_rows r.operands k n)
      (ap (position (same_id d)) (keys_of_rows r.operands r.nodes) ∙ at)
      (slice_get-map (λ e. (e.0, node_of_rows r.operands e.0 e.1)) r.nodes p
      ∙ ap (option_map (λ e. (e.0, node_of_rows r.operands e.0 e.1))) entry)

  pub node_absent : (d : DeclarationId) → node_place r d ≡ None → node_of (record_of_rows r) d ≡ None
  unfolding record_of_rows
  node_absent d none =
      absent_without_place (nodes_of_rows r.operands r.nodes) d
      (ap (position (same_id d)) (keys_of_rows r.operands r.nodes) ∙ none)

  pub scope_is : (c k : ScopeId) (p : ℕ) (ds : List DeclarationId) → scope_place r c ≡ Some p
      → slice_get r.scopes p ≡ Some (k, ds) → dependencies_of (record_of_rows r) c ≡ Some ds
  unfolding record_of_rows
  scope_is c k p ds at entry = value_at_place r.scopes c p (k, ds) at entry

  pub scope_absent : (c : ScopeId) → scope_place r c ≡ None → dependencies_of (record_of_rows r) c ≡ None
  unfolding record_of_rows
  scope_absent c none = absent_without_place r.scopes c none

  -- a name with its position and its node
  pub node_at : (d k : DeclarationId) (p : ℕ) (n : RowNode) → node_place r d ≡ Some p
      → slice_get r.nodes p ≡ Some (k, n) → IsNodeAt r d p n
  node_at d k p n at entry = record {
    place_is = at;
    entry = subst (λ w. slice_get r.nodes p ≡ Some (w, n)) (sym (key_at_place r.nodes d p (k, n) at entry)) entry;
  }

  pub scope_at : (c k : ScopeId) (p : ℕ) (ds : List DeclarationId) → scope_place r c ≡ Some p
      → slice_get r.scopes p ≡ Some (k, ds) → IsScopeAt r c p ds
  scope_at c k p ds at entry = record {
    place_is = at;
    entry = subst (λ w. slice_get r.scopes p ≡ Some (w, ds)) (sym (key_at_place r.scopes c p (k, ds) at entry)) entry;
  }

  -- what is met of a name is what its mark says
  pub mark_is : (s : WalkState) (d : DeclarationId) (p : ℕ) → node_place r d ≡ Some p
      → mark_of r s.marks d ≡ entry_or Unseen s.marks p
  mark_is s d p at = ap (entry_at Unseen s.marks) at

  pub seen_is : (s : WalkState) (d : DeclarationId) (p : ℕ) (m : NodeMark) → node_place r d ≡ Some p
      → entry_or Unseen s.marks p ≡ m → (progress r s).seen d ≡ says_seen m
  unfolding progress
  seen_is s d p m at is = ap says_seen (mark_is s d p at ∙ is)

  pub taken_is : (s : WalkState) (c : ScopeId) (p : ℕ) → scope_place r c ≡ Some p
      → (progress r s).taken c ≡ is_set s.taken p
  unfolding progress is_set
  taken_is s c p at = ap (entry_at false s.taken) at

  -- a mark means one more name
  marked : (s : WalkState) (d : DeclarationId) (p : ℕ) (m : NodeMark) → node_place r d ≡ Some p → p < length s.marks
      → (e : DeclarationId)
      → mark_of r (slice_set s.marks p m) e ≡ cond (same_id e d) m (mark_of r s.marks e)
  marked s d p m at lt e = entry_puts Unseen m r.nodes s.marks d p at lt e

  seen_if : (b : Bool) (m : NodeMark) → says_seen (cond b Seen m) ≡ (b || says_seen m)
  seen_if true m = refl
  seen_if false m = refl

  memoized_seen_if : (b : Bool) (m : NodeMark) → says_seen (cond b Memoized m) ≡ (b || says_seen m)
  memoized_seen_if true m = refl
  memoized_seen_if false m = refl

  memoized_if : (b : Bool) (m : NodeMark) → says_memoized (cond b Memoized m) ≡ (b || says_memoized m)
  memoized_if true m = refl
  memoized_if false m = refl

  taken_if : (b c : Bool) → cond b true c ≡ (b || c)
  taken_if true c = refl
  taken_if false c = refl

  -- a name that is seen and wasn't before isn't memoized
  not_yet : (s : WalkState) (d : DeclarationId) (p : ℕ) → node_place r d ≡ Some p → entry_or Unseen s.marks p ≡ Unseen
      → (e : DeclarationId)
      → says_memoized (cond (same_id e d) Seen (mark_of r s.marks e)) ≡ says_memoized (mark_of r s.marks e)
  not_yet s d p at unseen e = go (same_id e d) refl
    where
      go : (b : Bool) → same_id e d ≡ b
          → says_memoized (cond b Seen (mark_of r s.marks e)) ≡ says_memoized (mark_of r s.marks e)
      go false h = refl
      go true h = sym (ap (λ w. says_memoized (mark_of r s.marks w)) (same_id-eq e d h)
          ∙ ap says_memoized (mark_is s d p at ∙ unseen))

  pub seen_more : (s : WalkState) (d : DeclarationId) (p : ℕ) → node_place r d ≡ Some p → p < length s.marks
      → entry_or Unseen s.marks p ≡ Unseen
      → progress r (record s { marks = slice_set s.marks p Seen }) ≡ with_seen (progress r s) d
  unfolding progress
  seen_more s d p at lt unseen = λ i. record {
    seen = λ e. (ap says_seen (marked s d p Seen at lt e) ∙ seen_if (same_id e d) (mark_of r s.marks e)) i;
    memoized = λ e. (ap says_memoized (marked s d p Seen at lt e) ∙ not_yet s d p at unseen e) i;
    taken = λ c. entry_at false s.taken (scope_place r c);
  }

  pub memoized_more : (s t : WalkState) (d : DeclarationId) (p : ℕ) → node_place r d ≡ Some p → p < length s.marks
      → t.marks ≡ slice_set s.marks p Memoized → t.taken ≡ s.taken
      → progress r t ≡ with_memoized (with_seen (progress r s) d) d
  unfolding progress
  memoized_more s t d p at lt marks same = λ i. record {
    seen = λ e. (ap (λ w. says_seen (mark_of r w e)) marks ∙ ap says_seen (marked s d p Memoized at lt e)
        ∙ memoized_seen_if (same_id e d) (mark_of r s.marks e)) i;
    memoized = λ e. (ap (λ w. says_memoized (mark_of r w e)) marks ∙ ap says_memoized (marked s d p Memoized at lt e)
        ∙ memoized_if (same_id e d) (mark_of r s.marks e)) i;
    taken = λ c. entry_at false (same i) (scope_place r c);
  }

  pub taken_more : (s : WalkState) (c : ScopeId) (p : ℕ) → scope_place r c ≡ Some p → p < length s.taken
      → progress r (record s { taken = slice_set s.taken p true }) ≡ with_taken (progress r s) c
  unfolding progress
  taken_more s c p at lt = λ i. record {
    seen = λ e. says_seen (mark_of r s.marks e);
    memoized = λ e. says_memoized (mark_of r s.marks e);
    taken = λ e. (entry_puts false true r.scopes s.taken c p at lt e
        ∙ taken_if (same_id e c) (entry_at false s.taken (scope_place r e))) i;
  }
