-- Sending the nested values level by level.
use Rattle.std.proofs.Common.{◌≡◌, ℕ, ◌+◌, ◌<◌, ◌≤◌, List, [], ◌∷◌, ◌++◌, None, length, get_or, drop, map, refl, sym}
use Rattle.std.proofs.Common.{ap, ◌∙◌, append_assoc, append-nil, arith, subst}
use Rattle.std.proofs.lemmas.List.{drop_all, drop_more, length-append}
use Rattle.serde.specs.Event.{Log, Logs, seq_begins, seq_ends}
use Rattle.rc_tree.specs.Model.{ReactiveValue}
use Rattle.rc_show.proofs.SendingLemmas.{array_sent}
use Rattle.rc_show.proofs.ShownLists.{none_sent, one_more, SentSoFar}
use Rattle.rc_flat.specs.Model.{NestedValue}
use Rattle.rc_flat.specs.ReadingFlat.Values.{nested_value_of}
use Rattle.rc_flat.specs.ShownFlat.{nested_value_data}
use Rattle.rc_flat.specs.Values.{inside_value, no_value, value, ListsValues}
use Rattle.rc_answer.proofs.NumberingLemmas.{all_remain, fewer_remain, none_remains, Remains}
use Rattle.rc_answer.proofs.ValueDepths.{deepest, level_depth}
use Rattle.rc_answer.specs.declared.numbering.Numbered.{Numbered}
use Rattle.rc_answer.specs.inside.Levels.{entry, inside_values, no_entry, AreEntries, Lengthens}
use Rattle.rc_answer.specs.inside.Numbering.{Grows}
use Rattle.rc_answer.specs.inside.TablesSent.{AreValuesSent, IsEntrySent, IsLevelSent}

abbrev Values : Type 0
Values = Numbered ReactiveValue

-- the values of a level before the rest are sent
pub record IsLevelSoFar (rest level : List ReactiveValue) (old new : Values) (first now : Log) : Type 0 where
  pub sent : List NestedValue
  pub given : (others : List NestedValue) → AreEntries new.next rest others
      → AreEntries old.next level (sent ++ others)
  pub sends : Lengthens nested_value_of nested_value_data sent first now
  pub values : Remains (inside_values rest) (inside_values level) old new

pub nothing_sent : (level : List ReactiveValue) (n : Values) (log : Log) → IsLevelSoFar level level n n log log
nothing_sent level n log = record {
  sent = [];
  given = λ others h. h;
  sends = λ before first s.
      subst (λ z. SentSoFar nested_value_of nested_value_data z first log) (sym (append-nil before)) s;
  values = all_remain (inside_values level) n;
}

one_sent : (x : ReactiveValue) (rest level : List ReactiveValue) (old mid new : Values) (first before now : Log)
    → IsLevelSoFar (x ∷ rest) level old mid first before → IsEntrySent mid.next x before now
    → Grows (inside_value x) mid new → IsLevelSoFar rest level old new first now
one_sent x rest level old mid new first before now so_far one grown = record {
  sent = so_far.sent ++ one.entry ∷ [];
  given = λ others h.
      subst (λ z. AreEntries old.next level z) (sym (append_assoc so_far.sent (one.entry ∷ []) others))
      (so_far.given (one.entry ∷ others) (entry one.is (subst (λ n. AreEntries n rest others) grown.next h)));
  sends = λ others start s.
      subst (λ z. SentSoFar nested_value_of nested_value_data z start now)
      (append_assoc others so_far.sent (one.entry ∷ []))
      (one_more nested_value_of nested_value_data (others ++ so_far.sent) one.entry start before now
      (so_far.sends others start s) one.sends one.again);
  values = fewer_remain _ _ _ _ _ _ so_far.values grown;
}

module _ {A : Type 0} (f : A → ReactiveValue) where
  pub next_sent : (i : ℕ) (x : A) (level : List A) (old mid new : Values) (first before now : Log) → i < length level
      → x ≡ get_or level i x → IsLevelSoFar (map f (drop i level)) (map f level) old mid first before
      → IsEntrySent mid.next (f x) before now → Grows (inside_value (f x)) mid new
      → IsLevelSoFar (map f (drop (i + 1) level)) (map f level) old new first now
  next_sent i x level old mid new first before now lt is so_far one grown =
      one_sent (f x) (map f (drop (i + 1) level)) (map f level) old mid new first before now
      (subst (λ z. IsLevelSoFar (map f z) (map f level) old mid first before)
      (drop_more level i x lt ∙ ap (λ z. z ∷ drop (i + 1) level) (sym is)) so_far) one grown

  -- all values of the level are sent
  module _ (level : List A) (i : ℕ) (old new : Values) (first last : Log) (le : length level ≤ i)
      (so_far : IsLevelSoFar (map f (drop i level)) (map f level) old new first last) where
    done : IsLevelSoFar [] (map f level) old new first last
    done = subst (λ z. IsLevelSoFar (map f z) (map f level) old new first last) (drop_all i level le) so_far

    pub level_sent : IsLevelSent old.next (map f level) first last
    level_sent = record {
      entries = done.sent;
      are = subst (λ z. AreEntries old.next (map f level) z) (append-nil done.sent) (done.given [] no_entry);
      sends = done.sends;
    }

    pub values_grown : Grows (inside_values (map f level)) old new
    values_grown = none_remains _ _ _ done.values

-- ---- level by level

-- the entries of a level come before those that follow from what is inside of it
level_lists : (next : ℕ) (level later : List ReactiveValue) (entries others : List NestedValue)
    → AreEntries next level entries
    → ListsValues (next + length (inside_values level)) (later ++ inside_values level) others
    → ListsValues next (level ++ later) (entries ++ others)
level_lists next [] later [] others no_entry h =
    let same : next + 0 ≡ next = omega arith in
    subst (λ n. ListsValues n later others) same
    (subst (λ z. ListsValues (next + 0) z others) (append-nil later) h)
level_lists next [] later (first ∷ entries) others are h = elim are [ ]
level_lists next (x ∷ xs) later [] others are h = elim are [ ]
level_lists next (x ∷ xs) later (first ∷ entries) others (entry is rest) h =
    let so_many : next + length (inside_value x ++ inside_values xs)
    ≡ next + length (inside_value x) + length (inside_values xs) =
    omega (arith, length-append (inside_value x) (inside_values xs)) in
    let inner = level_lists (next + length (inside_value x)) xs (later ++ inside_value x) entries others rest
    (subst (λ n. ListsValues n ((later ++ inside_value x) ++ inside_values xs) others) so_many
    (subst (λ z. ListsValues (next + length (inside_value x ++ inside_values xs)) z others)
    (sym (append_assoc later (inside_value x) (inside_values xs))) h)) in
    value is (subst (λ z. ListsValues (next + length (inside_value x)) z (entries ++ others))
    (sym (append_assoc xs later (inside_value x))) inner)

-- the levels before this one are sent
pub record AreSentSoFar (values : Values) (level : List ReactiveValue) (now : Values) (first last : Log) : Type 0 where
  pub sent : List NestedValue
  pub so_far : SentSoFar nested_value_of nested_value_data sent first last
  pub none : now.waiting ≡ []
  pub lists : (others : List NestedValue) → ListsValues now.next level others
      → ListsValues values.next values.waiting (sent ++ others)

pub no_level_sent : (values n : Values) (level : List ReactiveValue) (log : Log) → n ≡ record values { waiting = [] }
    → level ≡ values.waiting → AreSentSoFar values level n log log
no_level_sent values n level log e l = record {
  sent = [];
  so_far = none_sent nested_value_of nested_value_data log;
  none = ap (λ z. z.waiting) e;
  lists = λ others h.
      subst (λ z. ListsValues values.next z others) l
      (subst (λ z. ListsValues z level others) (ap (λ z. z.next) e) h);
}

module _ (values : Values) (level seen later : List ReactiveValue) (old mid new : Values) (same : seen ≡ level)
    (grown : Grows (inside_values seen) old mid) (taken : later ≡ mid.waiting) where
  -- what is inside of the level is the next one
  inside : old.waiting ≡ [] → later ≡ inside_values level
  inside none = taken ∙ grown.waiting ∙ ap (λ z. z ++ inside_values seen) none ∙ ap inside_values same

  pub level_ends : old.waiting ≡ [] → ¬ (level ≡ []) → deepest later < deepest level
  level_ends none some = subst (λ z. deepest z < deepest level) (sym (inside none)) (less level some)
    where
      less : (xs : List ReactiveValue) → ¬ (xs ≡ []) → deepest (inside_values xs) < deepest xs
      less [] h = absurd (h refl)
      less (x ∷ xs) h = level_depth x xs

  pub one_level_sent : (first before now : Log) → AreSentSoFar values level old first before
      → IsLevelSent old.next seen before now → new ≡ record mid { waiting = [] }
      → AreSentSoFar values later new first now
  one_level_sent first before now so_far sent left =
      let at : new.next ≡ old.next + length (inside_values level) =
      ap (λ z. z.next) left ∙ grown.next ∙ ap (λ z. old.next + length (inside_values z)) same in
      record {
        sent = so_far.sent ++ sent.entries;
        so_far = sent.sends so_far.sent first so_far.so_far;
        none = ap (λ z. z.waiting) left;
        lists = λ others h.
            subst (λ z. ListsValues values.next values.waiting z)
            (sym (append_assoc so_far.sent sent.entries others))
            (so_far.lists (sent.entries ++ others)
            (subst (λ z. ListsValues old.next z (sent.entries ++ others)) (append-nil level)
            (level_lists old.next level [] sent.entries others
            (subst (λ z. AreEntries old.next z sent.entries) same sent.are)
            (subst (λ n. ListsValues n (inside_values level) others) at
            (subst (λ z. ListsValues new.next z others) (inside so_far.none) h)))));
      }

pub all_levels_sent : (values n : Values) (level : List ReactiveValue) (old first last new : Log) → level ≡ []
    → AreSentSoFar values level n first last → Logs old first (seq_begins None) → Logs last new seq_ends
    → AreValuesSent values old new
all_levels_sent values n level old first last new none so_far begun ended = record {
  entries = so_far.sent;
  lists = subst (λ z. ListsValues values.next values.waiting z) (append-nil so_far.sent)
      (so_far.lists [] (subst (λ z. ListsValues n.next z []) (sym none) no_value));
  sends = array_sent _ old first last new begun so_far.so_far.sends ended;
  again = so_far.so_far.again;
}
