-- Sending the statements of a block one after the other.
use Rattle.std.proofs.Common.{◌≡◌, ℕ, ◌+◌, ◌<◌, ◌≤◌, List, [], ◌∷◌, ◌++◌, Some, length, get_or, drop, refl, sym}
use Rattle.std.proofs.Common.{ap, ◌∙◌}
use Rattle.std.proofs.Common.{append_assoc, append-nil, subst}
use Rattle.std.proofs.lemmas.List.{drop_all, drop_more}
use Rattle.serde.specs.Event.{Log, Logs, seq_begins, seq_ends}
use Rattle.std.specs.Prelude.{None}
use Rattle.rc_doc.specs.Reading.{list_of}
use Rattle.rc_tree.specs.Model.{ReactiveBlock, ReactiveStatement, ReactiveValue}
use Rattle.rc_tree.specs.declared.statement.ReactiveStatement.{out-ReactiveStatement}
use Rattle.rc_show.specs.Sending.{Sends}
use Rattle.rc_show.specs.Showing.{list_data}
use Rattle.rc_show.proofs.SendingLemmas.{array_sent}
use Rattle.rc_show.proofs.ShownLists.{none_sent, one_more, SentSoFar}
use Rattle.rc_flat.specs.Blocks.{after, after_statement, blocks_in, blocks_in_statement, flat_statement}
use Rattle.rc_flat.specs.Blocks.{flat_statements}
use Rattle.rc_flat.specs.Blocks.{values_in, values_in_statement}
use Rattle.rc_flat.specs.Model.{FlatStatement}
use Rattle.rc_flat.specs.ReadingFlat.{statement_of}
use Rattle.rc_flat.specs.ShownFlat.{statement_data}
use Rattle.rc_answer.proofs.NumberingLemmas.{all_remain, fewer_remain, none_remains, Remains}
use Rattle.rc_answer.specs.declared.numbering.statements.Numbering.{Numbering}
use Rattle.rc_answer.specs.inside.Numbering.{next_of, Grows}

-- the next numbers after parts got theirs
pub next_grown : (bs : List ReactiveBlock) (vs : List ReactiveValue) (old new : Numbering)
    → Grows bs old.blocks new.blocks → Grows vs old.values new.values → next_of new ≡ after (next_of old) bs vs
next_grown bs vs old new b v = λ i. record { block = b.next i; value = v.next i }

-- the statements before the rest are sent
pub record IsSentSoFar (rest xs : List ReactiveStatement) (old new : Numbering) (first now : Log) : Type 0 where
  pub sent : List FlatStatement
  pub given : sent ++ flat_statements (next_of new) rest ≡ flat_statements (next_of old) xs
  pub so_far : SentSoFar statement_of statement_data sent first now
  pub blocks : Remains (blocks_in rest) (blocks_in xs) old.blocks new.blocks
  pub values : Remains (values_in rest) (values_in xs) old.values new.values

pub nothing_sent : (xs : List ReactiveStatement) (n : Numbering) (log : Log) → IsSentSoFar xs xs n n log log
nothing_sent xs n log = record {
  sent = [];
  given = refl;
  so_far = none_sent statement_of statement_data log;
  blocks = all_remain (blocks_in xs) n.blocks;
  values = all_remain (values_in xs) n.values;
}

-- a statement is sent, and gives numbers to the parts inside
pub record IsStatementSent (x : ReactiveStatement) (old new : Numbering) (before now : Log) : Type 0 where
  pub sends : Sends (statement_data (flat_statement (next_of old) (out-ReactiveStatement x))) before now
  pub again : statement_of (statement_data (flat_statement (next_of old) (out-ReactiveStatement x)))
      ≡ Some (flat_statement (next_of old) (out-ReactiveStatement x))
  pub blocks : Grows (blocks_in_statement (out-ReactiveStatement x)) old.blocks new.blocks
  pub values : Grows (values_in_statement (out-ReactiveStatement x)) old.values new.values

one_sent : (x : ReactiveStatement) (rest xs : List ReactiveStatement) (old mid new : Numbering) (first before now : Log)
    → IsSentSoFar (x ∷ rest) xs old mid first before → IsStatementSent x mid new before now
    → IsSentSoFar rest xs old new first now
one_sent x rest xs old mid new first before now so_far one =
    let open_x = out-ReactiveStatement x in
    let flat = flat_statement (next_of mid) open_x in
    let next : next_of new ≡ after_statement (next_of mid) open_x = next_grown _ _ mid new one.blocks one.values in
    record {
      sent = so_far.sent ++ flat ∷ [];
      given = append_assoc so_far.sent (flat ∷ []) (flat_statements (next_of new) rest)
          ∙ ap (λ n. so_far.sent ++ flat ∷ flat_statements n rest) next ∙ so_far.given;
      so_far = one_more statement_of statement_data so_far.sent flat first before now so_far.so_far one.sends one.again;
      blocks = fewer_remain _ _ _ _ _ _ so_far.blocks one.blocks;
      values = fewer_remain _ _ _ _ _ _ so_far.values one.values;
    }

pub next_sent : (i : ℕ) (x : ReactiveStatement) (xs : List ReactiveStatement) (old mid new : Numbering)
    (first before now : Log) → i < length xs → x ≡ get_or xs i x → IsSentSoFar (drop i xs) xs old mid first before
    → IsStatementSent x mid new before now → IsSentSoFar (drop (i + 1) xs) xs old new first now
next_sent i x xs old mid new first before now lt is so_far one =
    one_sent x (drop (i + 1) xs) xs old mid new first before now
    (subst (λ z. IsSentSoFar z xs old mid first before)
    (drop_more xs i x lt ∙ ap (λ z. z ∷ drop (i + 1) xs) (sym is)) so_far) one

-- all statements are sent
module _ (xs : List ReactiveStatement) (i : ℕ) (old new : Numbering) (first last : Log) (le : length xs ≤ i)
    (so_far : IsSentSoFar (drop i xs) xs old new first last) where
  done : IsSentSoFar [] xs old new first last
  done = subst (λ z. IsSentSoFar z xs old new first last) (drop_all i xs le) so_far

  all_given : done.sent ≡ flat_statements (next_of old) xs
  all_given = sym (append-nil done.sent) ∙ done.given

  pub block_sent : (begin end : Log) → Logs begin first (seq_begins None) → Logs last end seq_ends
      → Sends (list_data statement_data (flat_statements (next_of old) xs)) begin end
  block_sent begin end begun ended =
      subst (λ ys. Sends (list_data statement_data ys) begin end) all_given
      (array_sent _ begin first last end begun done.so_far.sends ended)

  pub block_again : list_of statement_of (list_data statement_data (flat_statements (next_of old) xs))
      ≡ Some (flat_statements (next_of old) xs)
  block_again =
      subst (λ ys. list_of statement_of (list_data statement_data ys) ≡ Some ys) all_given done.so_far.again

  pub blocks_grown : Grows (blocks_in xs) old.blocks new.blocks
  blocks_grown = none_remains _ _ _ done.blocks

  pub values_grown : Grows (values_in xs) old.values new.values
  values_grown = none_remains _ _ _ done.values
