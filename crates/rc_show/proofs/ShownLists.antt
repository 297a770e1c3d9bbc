-- Sending the entries of a list one after the other.
use Rattle.std.proofs.Common.{◌≡◌, ℕ, ◌+◌, ◌<◌, ◌≤◌, ◌^◌, List, [], ◌∷◌, ◌++◌, Option, None, Some, option_and_then}
use Rattle.std.proofs.Common.{arith, nat_lt, true, suc}
use Rattle.std.proofs.lemmas.Bool.Decides.{nat_tests}
use Rattle.std.proofs.Common.{option_map, length, get_or, take, map, refl, subst, sym, ap, ◌∙◌}
use Rattle.std.proofs.lemmas.List.{map-append, take_all, take_more}
use Rattle.serde.specs.Event.{Log, Logs, seq_begins, seq_ends}
use Rattle.serde_json.specs.Data.{Data}
use Rattle.serde_json.specs.Events.{items_len}
use Rattle.serde_json.specs.View.{items_of}
use Rattle.rc_doc.specs.Reading.{all_items, array_len, list_of, table_of}
use Rattle.rc_show.specs.Showing.{list_data}
use Rattle.rc_show.specs.Sending.{Sends, SendsItems}
use Rattle.rc_show.proofs.SendingLemmas.{array_sent, last_item_sent, no_items_sent}

-- The entries are sent, and their printing forms read as these again.
pub record SentSoFar {X : Type 0} (reads : Data → Option X) (shows : X → Data) (xs : List X) (old new : Log) :
    Type 0 where
  pub sends : SendsItems (items_of (map shows xs)) old new
  pub again : all_items reads (items_of (map shows xs)) ≡ Some xs

module _ {X : Type 0} (reads : Data → Option X) (shows : X → Data) where
  later : (x : X) (first : Option X) (rest : Option (List X))
      → option_and_then (λ y. option_and_then (λ ys. Some (y ∷ ys)) (option_map (λ ys. ys ++ x ∷ []) rest)) first
      ≡ option_map (λ ys. ys ++ x ∷ []) (option_and_then (λ y. option_and_then (λ ys. Some (y ∷ ys)) rest) first)
  later x None rest = refl
  later x (Some y) None = refl
  later x (Some y) (Some ys) = refl

  all_items-append : (ds : List Data) (d : Data) (x : X) → reads d ≡ Some x
      → all_items reads (items_of (ds ++ d ∷ [])) ≡ option_map (λ xs. xs ++ x ∷ []) (all_items reads (items_of ds))
  all_items-append [] d x h = rw h refl
  all_items-append (e ∷ ds) d x h = rw (all_items-append ds d x h) (later x (reads e) (all_items reads (items_of ds)))

  pub none_sent : (log : Log) → SentSoFar reads shows [] log log
  none_sent log = record { sends = no_items_sent log; again = refl }

  -- one more entry is sent
  pub one_more : (xs : List X) (x : X) (old mid new : Log) → SentSoFar reads shows xs old mid → Sends (shows x) mid new
      → reads (shows x) ≡ Some x → SentSoFar reads shows (xs ++ x ∷ []) old new
  one_more xs x old mid new so_far sends again =
      let both : map shows (xs ++ x ∷ []) ≡ map shows xs ++ shows x ∷ [] = map-append shows xs (x ∷ []) in
      record {
        sends = subst (λ ds. SendsItems (items_of ds) old new) (sym both)
            (last_item_sent (map shows xs) (shows x) old mid new so_far.sends sends);
        again = ap (λ ds. all_items reads (items_of ds)) both
            ∙ all_items-append (map shows xs) (shows x) x again ∙ rw so_far.again refl;
      }

  pub next_sent : (xs : List X) (i : ℕ) (x : X) (old mid new : Log) → i < length xs → x ≡ get_or xs i x
      → SentSoFar reads shows (take i xs) old mid → Sends (shows x) mid new → reads (shows x) ≡ Some x
      → SentSoFar reads shows (take (i + 1) xs) old new
  next_sent xs i x old mid new lt is so_far sends again =
      let more : take (i + 1) xs ≡ take i xs ++ x ∷ [] = take_more xs i x lt ∙ ap (λ y. take i xs ++ y ∷ []) (sym is) in
      rw more (one_more (take i xs) x old mid new so_far sends again)

  pub all_sent : (xs ys : List X) (i : ℕ) (old first last new : Log) → ys ≡ xs → length ys ≤ i
      → Logs old first (seq_begins None) → SentSoFar reads shows (take i ys) first last → Logs last new seq_ends
      → Sends (list_data shows xs) old new
  all_sent xs ys i old first last new same le begun so_far ended =
      let all = take_all i ys le ∙ same in
      array_sent _ old first last new begun
      (subst (λ zs. SendsItems (items_of (map shows zs)) first last) all so_far.sends) ended

  pub all_again : (xs ys : List X) (i : ℕ) (first last : Log) → ys ≡ xs → length ys ≤ i
      → SentSoFar reads shows (take i ys) first last → list_of reads (list_data shows xs) ≡ Some xs
  all_again xs ys i first last same le so_far =
      subst (λ zs. all_items reads (items_of (map shows zs)) ≡ Some zs) (take_all i ys le ∙ same) so_far.again

items_len-map : {X : Type 0} (shows : X → Data) (xs : List X) → items_len (items_of (map shows xs)) ≡ length xs
items_len-map shows [] = refl
items_len-map shows (x ∷ xs) = ap suc (items_len-map shows xs)

-- a list that fits a table reads as that table
pub table_again : {X : Type 0} (reads : Data → Option X) (shows : X → Data) (xs : List X) → length xs < 2 ^ 32
    → list_of reads (list_data shows xs) ≡ Some xs → table_of reads (list_data shows xs) ≡ Some xs
table_again reads shows xs fits h =
    let few : nat_lt (array_len (list_data shows xs)) (2 ^ 32) ≡ true =
    rw (items_len-map shows xs) (grind (arith, nat_tests, fits)) in
    rw few h
