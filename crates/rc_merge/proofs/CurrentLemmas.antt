-- Which of the declarations that a head keeps are current, as they are added and as the id rises.
use Rattle.std.proofs.Common.{◌≡◌, ◌∙◌, ◌≤◌, ℕ, suc, Bool, true, false, List, [], ◌∷◌, ◌++◌, Option, None, Some, ap, arith}
use Rattle.std.proofs.Common.{if◌then◌else◌, map, not, option_map, refl, sym}
use Rattle.std.proofs.lemmas.Bool.Decides.{nat_tests}
use Rattle.std.proofs.lemmas.List.{map-append}
use Rattle.std.proofs.lemmas.List.Elements.{filter-append}
use Rattle.std.specs.List.{filter, position}
use Rattle.std.specs.Prelude.{◌&&◌, ◌||◌, nat_lt}
use Rattle.rc_hir.specs.Model.{DeclarationEntry, Environment}
use Rattle.rc_names.proofs.NumbersLemmas.{same_id-eq}
use Rattle.rc_names.specs.Numbers.{DeclarationId, EvaluationOrder, IdentifierId, same_id}
use Rattle.rc_merge.proofs.DeclaredLemmas.{position-cons, put_last, suc_none}
use Rattle.rc_merge.specs.Joining.{declared_name, declares, is_still_used, is_used_from, put_declaration}
use Rattle.rc_merge.specs.LastUses.{LastUses}
use Rattle.rc_merge.specs.declared.declared.Slot.{Slot}
use Rattle.rc_merge.specs.inside.Declarations.{current_of, entries_of, is_current, keys_in, slot_of}

-- the tests of last uses

used_below : (f end : EvaluationOrder) (o : Option EvaluationOrder) → end.0 ≤ f.0
    → is_used_from f o ≡ true → is_used_from end o ≡ true
used_below f end None less from = refl
used_below f end (Some last) less from = below f.0 end.0 last.0 less from
  where
    below : (f end last : ℕ) → end ≤ f → not (nat_lt last f) ≡ true → not (nat_lt last end) ≡ true
    below f end last less from = by (nat_lt last f) refl from
      where
        by : (b : Bool) → nat_lt last f ≡ b → not b ≡ true → not (nat_lt last end) ≡ true
        by true e from = let bad : ⊥ = cc in absurd bad
        by false e from = ap not (let over : nat_lt last end ≡ false = grind (arith, nat_tests) in over)

gone_later : (f end : EvaluationOrder) (o : Option EvaluationOrder) → f.0 ≤ end.0
    → is_used_from f o ≡ false → is_used_from end o ≡ false
gone_later f end o less gone = by (is_used_from end o) refl
  where
    by : (b : Bool) → is_used_from end o ≡ b → is_used_from end o ≡ false
    by true e = let used = used_below end f o less e in let bad : ⊥ = cc in absurd bad
    by false e = e

pub used_from_first : (end : EvaluationOrder) (o : Option EvaluationOrder) → end.0 ≡ 0 → is_used_from end o ≡ true
used_from_first end None first = refl
used_from_first end (Some last) first =
    ap not (let over : nat_lt last.0 end.0 ≡ false = grind (arith, nat_tests) in over)

-- from the first id on all are current
pub all_current : (end : EvaluationOrder) (slots : List Slot) → end.0 ≡ 0 → current_of end slots ≡ entries_of slots
all_current end [] first = refl
all_current end (s ∷ slots) first =
    ap (λ b. entries_of (if b then s ∷ filter (is_current end) slots else filter (is_current end) slots))
    (used_from_first end s.last first) ∙ ap (λ l. s.entry ∷ l) (all_current end slots first)

-- one more declaration that is current
pub current_pushed : (end : EvaluationOrder) (slots : List Slot) (s : Slot) → is_current end s ≡ true
    → current_of end (slots ++ s ∷ []) ≡ current_of end slots ++ s.entry ∷ []
current_pushed end slots s here =
    ap entries_of (filter-append (is_current end) slots (s ∷ [])
    ∙ ap (λ b. filter (is_current end) slots ++ (if b then s ∷ [] else [])) here)
    ∙ map-append (λ (slot : Slot). slot.entry) (filter (is_current end) slots) (s ∷ [])

-- a key that no declaration has
no_key : (key : IdentifierId) (end : EvaluationOrder) (slots : List Slot)
    → position (same_id key) (keys_in (entries_of slots)) ≡ None
    → position (same_id key) (keys_in (current_of end slots)) ≡ None
no_key key end [] none = refl
no_key key end (s ∷ slots) none =
    by (same_id key s.entry.key) refl (is_current end s)
    (sym (position-cons (same_id key) s.entry.key (keys_in (entries_of slots))) ∙ none)
    (λ here. no_key key end slots here)
  where
    by : (same : Bool) → same_id key s.entry.key ≡ same → (b : Bool)
        → (if same then Some 0 else option_map suc (position (same_id key) (keys_in (entries_of slots)))) ≡ None
        → (position (same_id key) (keys_in (entries_of slots)) ≡ None
        → position (same_id key) (keys_in (current_of end slots)) ≡ None)
        → position (same_id key)
        (keys_in (entries_of (if b then s ∷ filter (is_current end) slots else filter (is_current end) slots))) ≡ None
    by true e b none later = let bad : ⊥ = cc in absurd bad
    by false e true none later =
        position-cons (same_id key) s.entry.key (keys_in (current_of end slots))
        ∙ ap (λ same. if same then Some 0 else option_map suc (position (same_id key) (keys_in (current_of end slots)))) e
        ∙ ap (option_map suc) (later (suc_none (position (same_id key) (keys_in (entries_of slots))) none))
    by false e false none later = later (suc_none (position (same_id key) (keys_in (entries_of slots))) none)

pub put_pushed : (end : EvaluationOrder) (slots : List Slot) (s : Slot) → is_current end s ≡ true
    → position (same_id s.entry.key) (keys_in (entries_of slots)) ≡ None
    → current_of end (slots ++ s ∷ []) ≡ put_declaration (current_of end slots) s.entry
put_pushed end slots s here none =
    current_pushed end slots s here ∙ put_last (current_of end slots) s.entry (no_key s.entry.key end slots none)

module _ (env : Environment) (uses : LastUses) where
  slots_current : (end : EvaluationOrder) (es : List DeclarationEntry)
      → current_of end (map (slot_of env uses) es) ≡ filter (is_still_used env uses end) es
  slots_current end [] = refl
  slots_current end (e ∷ es) = by (is_still_used env uses end e) (slots_current end es)
    where
      by : (b : Bool) → current_of end (map (slot_of env uses) es) ≡ filter (is_still_used env uses end) es
          → entries_of (if b then slot_of env uses e ∷ filter (is_current end) (map (slot_of env uses) es)
          else filter (is_current end) (map (slot_of env uses) es))
          ≡ (if b then e ∷ filter (is_still_used env uses end) es else filter (is_still_used env uses end) es)
      by true rest = ap (λ l. e ∷ l) rest
      by false rest = rest

  -- with the last uses, the current ones are those that are still used
  pub current_used : (end : EvaluationOrder) (slots : List Slot) → slots ≡ map (slot_of env uses) (entries_of slots)
      → current_of end slots ≡ filter (is_still_used env uses end) (entries_of slots)
  current_used end slots lasts = ap (current_of end) lasts ∙ slots_current end (entries_of slots)

  used_twice : (f end : EvaluationOrder) (es : List DeclarationEntry) → f.0 ≤ end.0
      → filter (is_still_used env uses end) (filter (is_still_used env uses f) es)
      ≡ filter (is_still_used env uses end) es
  used_twice f end [] less = refl
  used_twice f end (e ∷ es) less = by (is_still_used env uses f e) refl (used_twice f end es less)
    where
      kept : List DeclarationEntry
      kept = filter (is_still_used env uses f) es

      by : (b : Bool) → is_still_used env uses f e ≡ b
          → filter (is_still_used env uses end) kept ≡ filter (is_still_used env uses end) es
          → filter (is_still_used env uses end) (if b then e ∷ kept else kept)
          ≡ filter (is_still_used env uses end) (e ∷ es)
      by true used rest = ap (λ l. if is_still_used env uses end e then e ∷ l else l) rest
      by false gone rest = rest
          ∙ ap (λ b. if b then e ∷ filter (is_still_used env uses end) es else filter (is_still_used env uses end) es)
          (sym (gone_later f end (uses (declared_name env e)) less gone))

  -- a later id leaves those that are still used then
  pub current_raised : (f end : EvaluationOrder) (slots : List Slot) → slots ≡ map (slot_of env uses) (entries_of slots)
      → f.0 ≤ end.0 → current_of end slots ≡ filter (is_still_used env uses end) (current_of f slots)
  current_raised f end slots lasts less =
      current_used end slots lasts ∙ sym (used_twice f end (entries_of slots) less)
      ∙ ap (filter (is_still_used env uses end)) (sym (current_used f slots lasts))

  used_names : (end : EvaluationOrder) (es : List DeclarationEntry) (name : DeclarationId)
      → declares env (filter (is_still_used env uses end) es) name
      ≡ (declares env es name && is_used_from end (uses name))
  used_names end [] name = refl
  used_names end (e ∷ es) name =
      by (is_still_used env uses end e) refl (same_id name (declared_name env e)) refl (used_names end es name)
    where
      never : (b : Bool) → (b && false) ≡ false
      never true = refl
      never false = refl

      by : (used : Bool) → is_still_used env uses end e ≡ used → (same : Bool)
          → same_id name (declared_name env e) ≡ same
          → declares env (filter (is_still_used env uses end) es) name
          ≡ (declares env es name && is_used_from end (uses name))
          → declares env (if used then e ∷ filter (is_still_used env uses end) es
          else filter (is_still_used env uses end) es) name
          ≡ ((same || declares env es name) && is_used_from end (uses name))
      by true u true s rest =
          ap (λ b. b || declares env (filter (is_still_used env uses end) es) name) s
          ∙ sym (ap (λ n. is_used_from end (uses n)) (same_id-eq name (declared_name env e) s) ∙ u)
      by false u true s rest =
          let gone : is_used_from end (uses name) ≡ false =
          ap (λ n. is_used_from end (uses n)) (same_id-eq name (declared_name env e) s) ∙ u in
          rest ∙ ap (λ b. declares env es name && b) gone ∙ never (declares env es name) ∙ sym gone
      by true u false s rest =
          ap (λ b. b || declares env (filter (is_still_used env uses end) es) name) s ∙ rest
      by false u false s rest = rest

  -- a name is declared if it is among the names, and still used
  pub current_declares : (end : EvaluationOrder) (slots : List Slot) (name : DeclarationId)
      → slots ≡ map (slot_of env uses) (entries_of slots)
      → declares env (current_of end slots) name
      ≡ (declares env (entries_of slots) name && is_used_from end (uses name))
  current_declares end slots name lasts =
      ap (λ l. declares env l name) (current_used end slots lasts) ∙ used_names end (entries_of slots) name
