-- How what the parts of a body add to its table comes together.
use Rattle.std.proofs.Common.{◌≡◌, ℕ, ◌+◌, List, [], ◌∷◌, ◌++◌, Some, length, refl, sym, ap, ◌∙◌, subst, append_assoc, arith}
use Rattle.std.proofs.lemmas.List.{append-nil, length-append}
use Rattle.rc_replay.specs.declared.layout.Layout.{Layout}
use Rattle.rc_replay.specs.declared.positions.Position.{Position as LaidPosition}
use Rattle.rc_replay.specs.inside.Layout.{HasList, none_has, one_has, Lays, Has}
use Rattle.rc_replay.specs.inside.Positions.{Table, position_of}

-- a table that has joined lists has both
has_both : {table : Table} (front following : List LaidPosition) (start : ℕ) → HasList table start (front ++ following)
    → HasList table start front × HasList table (length front + start) following
has_both {table} [] following start has =
    (none_has, subst (λ n. HasList table n following) (omega arith) has)
has_both {table} (position ∷ front) following start (one_has here rest) =
    let parts = has_both front following (start + 1) rest in
    (one_has here parts.0, subst (λ n. HasList table n following) (omega arith) parts.1)

-- what is laid out tells more
pub lays_more : {old new : Layout} {F G : Table → Type 0} → ((table : Table) → F table → G table) → Lays old new F
    → Lays old new G
lays_more more l =
    record { added = l.added; labels = l.labels; grown = l.grown; laid = λ table has. more table (l.laid table has) }

-- nothing is added
pub lays_none : {old : Layout} {F : Table → Type 0} → ((table : Table) → F table) → Lays old old F
lays_none {old} fact = record {
  added = [];
  labels = refl;
  grown = sym (append-nil old.positions);
  laid = λ table has. fact table;
}

-- one part, and then another
pub lays_both : {old mid new : Layout} {F G : Table → Type 0} → Lays old mid F → Lays mid new G
    → Lays old new (λ table. F table × G table)
lays_both {old} {mid} {new} a b = record {
  added = a.added ++ b.added;
  labels = b.labels ∙ a.labels;
  grown = b.grown ∙ ap (λ v. v ++ b.added) a.grown ∙ append_assoc old.positions a.added b.added;
  laid = λ table has.
      let parts = has_both a.added b.added (length old.positions) has in
      let start : length a.added + length old.positions ≡ length mid.positions =
      omega (arith, ap length a.grown, length-append old.positions a.added) in
      (a.laid table parts.0, b.laid table (subst (λ n. HasList table n b.added) start parts.1));
}

-- one position
pub lays_one : {old new : Layout} (position : LaidPosition) → new.positions ≡ old.positions ++ position ∷ []
    → new.labels ≡ old.labels → Lays old new (Has (length old.positions) (position_of position))
lays_one position grown labels = record {
  added = position ∷ [];
  labels = labels;
  grown = grown;
  laid = first_has;
}
  where
    first_has : {start : ℕ} (table : Table) → HasList table start (position ∷ []) → table start ≡ Some (position_of position)
    first_has table (one_has here rest) = here
