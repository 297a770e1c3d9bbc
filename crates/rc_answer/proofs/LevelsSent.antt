-- Sending the blocks level by level.
use Rattle.std.proofs.Common.{◌≡◌, ℕ, ◌+◌, ◌<◌, ◌≤◌, List, [], ◌∷◌, ◌++◌, None, Some, length, get_or, drop, map}
use Rattle.std.proofs.Common.{refl, sym}
use Rattle.std.proofs.Common.{ap, ◌∙◌, append_assoc, append-nil, arith, subst}
use Rattle.std.proofs.lemmas.List.{drop_all, drop_more, length-append}
use Rattle.serde.specs.Event.{Log, Logs, seq_begins, seq_ends}
use Rattle.rc_doc.specs.Reading.{list_of}
use Rattle.rc_tree.specs.Model.{ReactiveBlock, ReactiveStatement, ReactiveValue}
use Rattle.rc_show.specs.Sending.{Sends}
use Rattle.rc_show.specs.Showing.{list_data}
use Rattle.rc_show.proofs.SendingLemmas.{array_sent}
use Rattle.rc_show.proofs.ShownLists.{none_sent, one_more, SentSoFar}
use Rattle.rc_flat.specs.Blocks.{after, after_block, block, blocks_in, flat_statements, no_block, values_in}
use Rattle.rc_flat.specs.Blocks.{ListsBlocks}
use Rattle.rc_flat.specs.Blocks.{Next}
use Rattle.rc_flat.specs.Model.{FlatStatement}
use Rattle.rc_flat.specs.ReadingFlat.{statement_of}
use Rattle.rc_flat.specs.ShownFlat.{statement_data}
use Rattle.rc_answer.proofs.BlockDepths.{deepest, level_depth}
use Rattle.rc_answer.proofs.NumberingLemmas.{all_remain, fewer_remain, none_remains, Remains}
use Rattle.rc_answer.proofs.StatementsSent.{next_grown}
use Rattle.rc_answer.specs.declared.numbering.Numbered.{Numbered}
use Rattle.rc_answer.specs.declared.numbering.statements.Numbering.{Numbering}
use Rattle.rc_answer.specs.inside.Levels.{blocks_inside, flat_blocks, values_inside, Lengthens}
use Rattle.rc_answer.specs.inside.Numbering.{next_of, Grows}
use Rattle.rc_answer.specs.inside.TablesSent.{AreBlocksSent}

-- the statements of a block are sent, and give numbers to the parts inside
pub record IsBlockSent (xs : List ReactiveStatement) (old new : Numbering) (before now : Log) : Type 0 where
  pub sends : Sends (list_data statement_data (flat_statements (next_of old) xs)) before now
  pub again : list_of statement_of (list_data statement_data (flat_statements (next_of old) xs))
      ≡ Some (flat_statements (next_of old) xs)
  pub blocks : Grows (blocks_in xs) old.blocks new.blocks
  pub values : Grows (values_in xs) old.values new.values

-- the blocks of a level before the rest are sent
pub record IsLevelSoFar (rest level : List ReactiveBlock) (old new : Numbering) (first now : Log) : Type 0 where
  pub sent : List (List FlatStatement)
  pub given : sent ++ flat_blocks (next_of new) rest ≡ flat_blocks (next_of old) level
  pub sends : Lengthens (list_of statement_of) (list_data statement_data) sent first now
  pub blocks : Remains (blocks_inside rest) (blocks_inside level) old.blocks new.blocks
  pub values : Remains (values_inside rest) (values_inside level) old.values new.values

pub nothing_sent : (level : List ReactiveBlock) (n : Numbering) (log : Log) → IsLevelSoFar level level n n log log
nothing_sent level n log = record {
  sent = [];
  given = refl;
  sends = λ before first s.
      subst (λ z. SentSoFar (list_of statement_of) (list_data statement_data) z first log) (sym (append-nil before)) s;
  blocks = all_remain (blocks_inside level) n.blocks;
  values = all_remain (values_inside level) n.values;
}

one_sent : (x : ReactiveBlock) (rest level : List ReactiveBlock) (old mid new : Numbering) (first before now : Log)
    → IsLevelSoFar (x ∷ rest) level old mid first before → IsBlockSent x.statements mid new before now
    → IsLevelSoFar rest level old new first now
one_sent x rest level old mid new first before now so_far one =
    let flat = flat_statements (next_of mid) x.statements in
    let next : next_of new ≡ after_block (next_of mid) x = next_grown _ _ mid new one.blocks one.values in
    record {
      sent = so_far.sent ++ flat ∷ [];
      given = append_assoc so_far.sent (flat ∷ []) (flat_blocks (next_of new) rest)
          ∙ ap (λ n. so_far.sent ++ flat ∷ flat_blocks n rest) next ∙ so_far.given;
      sends = λ others start s.
          subst (λ z. SentSoFar (list_of statement_of) (list_data statement_data) z start now)
          (append_assoc others so_far.sent (flat ∷ []))
          (one_more (list_of statement_of) (list_data statement_data) (others ++ so_far.sent) flat start before now
          (so_far.sends others start s) one.sends one.again);
      blocks = fewer_remain _ _ _ _ _ _ so_far.blocks one.blocks;
      values = fewer_remain _ _ _ _ _ _ so_far.values one.values;
    }

module _ {A : Type 0} (f : A → ReactiveBlock) where
  pub next_sent : (i : ℕ) (x : A) (level : List A) (old mid new : Numbering) (first before now : Log) → i < length level
      → x ≡ get_or level i x → IsLevelSoFar (map f (drop i level)) (map f level) old mid first before
      → IsBlockSent (f x).statements mid new before now
      → IsLevelSoFar (map f (drop (i + 1) level)) (map f level) old new first now
  next_sent i x level old mid new first before now lt is so_far one =
      one_sent (f x) (map f (drop (i + 1) level)) (map f level) old mid new first before now
      (subst (λ z. IsLevelSoFar (map f z) (map f level) old mid first before)
      (drop_more level i x lt ∙ ap (λ z. z ∷ drop (i + 1) level) (sym is)) so_far) one

  -- all blocks of the level are sent
  module _ (level : List A) (i : ℕ) (old new : Numbering) (first last : Log) (le : length level ≤ i)
      (so_far : IsLevelSoFar (map f (drop i level)) (map f level) old new first last) where
    done : IsLevelSoFar [] (map f level) old new first last
    done = subst (λ z. IsLevelSoFar (map f z) (map f level) old new first last) (drop_all i level le) so_far

    pub level_sent : Lengthens (list_of statement_of) (list_data statement_data)
        (flat_blocks (next_of old) (map f level)) first last
    level_sent =
        subst (λ z. Lengthens (list_of statement_of) (list_data statement_data) z first last)
        (sym (append-nil done.sent) ∙ done.given) done.sends

    pub blocks_grown : Grows (blocks_inside (map f level)) old.blocks new.blocks
    blocks_grown = none_remains _ _ _ done.blocks

    pub values_grown : Grows (values_inside (map f level)) old.values new.values
    values_grown = none_remains _ _ _ done.values

-- ---- level by level

after-append : (next : Next) (xs ys : List ReactiveBlock) (us vs : List ReactiveValue)
    → after next (xs ++ ys) (us ++ vs) ≡ after (after next xs us) ys vs
after-append next xs ys us vs =
    let b : next.block + length (xs ++ ys) ≡ next.block + length xs
    + length ys = omega (arith, length-append xs ys) in
    let v : next.value + length (us ++ vs) ≡ next.value + length us
    + length vs = omega (arith, length-append us vs) in
    λ i. record { block = b i; value = v i }

-- the entries of a level come before those that follow from what is inside of it
level_lists : (level later : List ReactiveBlock) (next : Next) (entries : List (List FlatStatement))
    (vs : List ReactiveValue)
    → ListsBlocks (after next (blocks_inside level) (values_inside level)) (later ++ blocks_inside level) entries vs
    → ListsBlocks next (level ++ later) (flat_blocks next level ++ entries) (values_inside level ++ vs)
level_lists [] later next entries vs h =
    let b : next.block + 0 ≡ next.block = omega arith in
    let v : next.value + 0 ≡ next.value = omega arith in
    let same : after next [] [] ≡ next = λ i. record { block = b i; value = v i } in
    subst (λ n. ListsBlocks n later entries vs) same
    (subst (λ z. ListsBlocks (after next [] []) z entries vs) (append-nil later) h)
level_lists (x ∷ xs) later next entries vs h =
    let inner = level_lists xs (later ++ blocks_in x.statements) (after_block next x) entries vs
    (subst (λ n. ListsBlocks n ((later ++ blocks_in x.statements) ++ blocks_inside xs) entries vs)
    (after-append next (blocks_in x.statements) (blocks_inside xs) (values_in x.statements) (values_inside xs))
    (subst (λ z. ListsBlocks (after next (blocks_inside (x ∷ xs)) (values_inside (x ∷ xs))) z entries vs)
    (sym (append_assoc later (blocks_in x.statements) (blocks_inside xs))) h)) in
    subst (λ z. ListsBlocks next (x ∷ (xs ++ later)) (flat_blocks next (x ∷ xs) ++ entries) z)
    (sym (append_assoc (values_in x.statements) (values_inside xs) vs))
    (block (subst (λ z. ListsBlocks (after_block next x) z (flat_blocks (after_block next x) xs ++ entries)
    (values_inside xs ++ vs)) (sym (append_assoc xs later (blocks_in x.statements))) inner))

-- the levels before this one are sent
pub record AreSentSoFar (body : ReactiveBlock) (level : List ReactiveBlock) (now : Numbering) (first last : Log) :
    Type 0 where
  pub sent : List (List FlatStatement)
  pub so_far : SentSoFar (list_of statement_of) (list_data statement_data) sent first last
  pub none : now.blocks.waiting ≡ []
  pub next : now.values.next ≡ length now.values.waiting
  pub lists : (entries : List (List FlatStatement)) (vs : List ReactiveValue)
      → ListsBlocks (next_of now) level entries vs
      → ListsBlocks (record { block = 1; value = 0 }) (body ∷ []) (sent ++ entries) (now.values.waiting ++ vs)

pub no_level_sent : (body : ReactiveBlock) (level : List ReactiveBlock) (n : Numbering) (log : Log)
    → n.blocks ≡ record { waiting = []; next = 1 } → n.values ≡ record { waiting = []; next = 0 } → level ≡ body ∷ []
    → AreSentSoFar body level n log log
no_level_sent body level n log b v l = record {
  sent = [];
  so_far = none_sent (list_of statement_of) (list_data statement_data) log;
  none = ap (λ z. z.waiting) b;
  next = ap (λ z. z.next) v ∙ sym (ap (λ z. length z.waiting) v);
  lists = λ entries vs h.
      let at : next_of n ≡ record { block = 1; value = 0 } = λ i. record { block = (b i).next; value = (v i).next } in
      subst (λ z. ListsBlocks (record { block = 1; value = 0 }) (body ∷ []) entries (z ++ vs))
      (sym (ap (λ z. z.waiting) v))
      (subst (λ z. ListsBlocks z (body ∷ []) entries vs) at (subst (λ z. ListsBlocks (next_of n) z entries vs) l h));
}

module _ (body : ReactiveBlock) (level seen later : List ReactiveBlock) (old mid new : Numbering)
    (same : seen ≡ level) (blocks : Grows (blocks_inside seen) old.blocks mid.blocks)
    (taken : later ≡ mid.blocks.waiting) where
  -- what is inside of the level is the next one
  inside : old.blocks.waiting ≡ [] → later ≡ blocks_inside level
  inside none = taken ∙ blocks.waiting ∙ ap (λ z. z ++ blocks_inside seen) none ∙ ap blocks_inside same

  pub level_ends : old.blocks.waiting ≡ [] → ¬ (level ≡ []) → deepest later < deepest level
  level_ends none some = subst (λ z. deepest z < deepest level) (sym (inside none)) (less level some)
    where
      less : (xs : List ReactiveBlock) → ¬ (xs ≡ []) → deepest (blocks_inside xs) < deepest xs
      less [] h = absurd (h refl)
      less (x ∷ xs) h = level_depth x xs

  pub one_level_sent : (first before now : Log) → AreSentSoFar body level old first before
      → Lengthens (list_of statement_of) (list_data statement_data) (flat_blocks (next_of old) seen) before now
      → Grows (values_inside seen) old.values mid.values → new.blocks ≡ record mid.blocks { waiting = [] }
      → new.values ≡ mid.values → AreSentSoFar body later new first now
  one_level_sent first before now so_far sends values left kept =
      let flat = flat_blocks (next_of old) level in
      let at : next_of new ≡ after (next_of old) (blocks_inside level) (values_inside level) =
      (λ i. record { block = (left i).next; value = (kept i).next })
      ∙ next_grown _ _ old mid blocks values
      ∙ ap (λ z. after (next_of old) (blocks_inside z) (values_inside z)) same in
      let waiting : new.values.waiting ≡ old.values.waiting ++ values_inside level =
      ap (λ z. z.waiting) kept ∙ values.waiting ∙ ap (λ z. old.values.waiting ++ values_inside z) same in
      let so_many : old.values.next + length (values_inside seen) ≡ length (old.values.waiting ++ values_inside seen) =
      omega (arith, so_far.next, length-append old.values.waiting (values_inside seen)) in
      record {
        sent = so_far.sent ++ flat;
        so_far = subst (λ z. SentSoFar (list_of statement_of) (list_data statement_data)
            (so_far.sent ++ flat_blocks (next_of old) z) first now) same (sends so_far.sent first so_far.so_far);
        none = ap (λ z. z.waiting) left;
        next = ap (λ z. z.next) kept ∙ values.next ∙ so_many
            ∙ ap length (sym values.waiting ∙ sym (ap (λ z. z.waiting) kept));
        lists = λ entries vs h.
            let inner = level_lists level [] (next_of old) entries vs
            (subst (λ z. ListsBlocks z (blocks_inside level) entries vs) at
            (subst (λ z. ListsBlocks (next_of new) z entries vs) (inside so_far.none) h)) in
            let outer = so_far.lists (flat ++ entries) (values_inside level ++ vs)
            (subst (λ z. ListsBlocks (next_of old) z (flat ++ entries) (values_inside level ++ vs)) (append-nil level)
            inner) in
            subst (λ z. ListsBlocks (record { block = 1; value = 0 }) (body ∷ []) z (new.values.waiting ++ vs))
            (sym (append_assoc so_far.sent flat entries))
            (subst (λ z. ListsBlocks (record { block = 1; value = 0 }) (body ∷ []) (so_far.sent ++ (flat ++ entries)) z)
            (sym (append_assoc old.values.waiting (values_inside level) vs)
            ∙ ap (λ z. z ++ vs) (sym waiting)) outer);
      }

pub all_levels_sent : (body : ReactiveBlock) (level : List ReactiveBlock) (n : Numbering)
    (values : Numbered ReactiveValue) (old first last new : Log) → level ≡ [] → values ≡ n.values → AreSentSoFar body level n first last
    → Logs old first (seq_begins None) → Logs last new seq_ends → AreBlocksSent body values old new
all_levels_sent body level n values old first last new none same so_far begun ended =
    subst (λ z. AreBlocksSent body z old new) (sym same)
    (record {
      blocks = so_far.sent;
      lists = subst (λ z. ListsBlocks (record { block = 1; value = 0 }) (body ∷ []) z n.values.waiting)
          (append-nil so_far.sent)
          (subst (λ z. ListsBlocks (record { block = 1; value = 0 }) (body ∷ []) (so_far.sent ++ []) z)
          (append-nil n.values.waiting)
          (so_far.lists [] [] (subst (λ z. ListsBlocks (next_of n) z [] []) (sym none) no_block)));
      next = so_far.next;
      sends = array_sent _ old first last new begun so_far.so_far.sends ended;
      again = so_far.so_far.again;
    })
