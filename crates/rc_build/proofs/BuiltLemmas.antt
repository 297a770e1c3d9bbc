-- What the builder's parts give together, whatever they are parts of.
use Rattle.std.proofs.Common.{◌≡◌, ◌≤◌, Bool, true, false, List, [], ◌∷◌, ◌++◌, Option, Some, refl, sym, ap, ◌∙◌, subst}
use Rattle.std.proofs.Common.{append_assoc, arith, map}
use Rattle.std.specs.Prelude.{is_some}
use Rattle.std.proofs.lemmas.List.{append-nil}
use Rattle.rc_names.specs.Numbers.{BlockId, times}
use Rattle.rc_hir.specs.Model.{Terminal, Instruction, BasicBlock, HirFunction}
use Rattle.rc_tree.specs.Model.{ReactiveStatement}
use Rattle.rc_build.specs.declared.builder.Marks.{Marks}
use Rattle.rc_runs.specs.PlainTree.{Statements, Nil, Cons, Statement, RowStatement, Base}
use Rattle.rc_runs.specs.Frames.{is_jump_target}
use Rattle.rc_runs.specs.Graph.{usable_block}
use Rattle.rc_runs.specs.TreeOf.{statements_of, statement_of}
use Rattle.rc_runs.specs.SimpleStatements.{rows_before}
use Rattle.rc_runs.specs.Grammar.{SpellsList, SpellsTerminal, SpellsStatement, SpellsRest, from_block, and_rest}
use Rattle.rc_runs.specs.Grammar.{has_rest, no_rest, returns, throws, unreachable, breaks, continues, branch_arms}
use Rattle.rc_runs.specs.Grammar.{leaves_try, may_throw_last, may_throw, branch_break, value_statement}
use Rattle.rc_runs.specs.Spelled.{AreSound}
use Rattle.rc_build.specs.References.{referenced_blocks}
use Rattle.rc_build.specs.inside.Rows.{row_statement_of}
use Rattle.rc_build.specs.inside.CanBuild.{AreMarked, AreReferenced}
use Rattle.rc_build.specs.inside.Marks.{IsUnusable, MarksBlocks}
use Rattle.rc_build.specs.inside.Setting.{Setting, open_block}
use Rattle.rc_build.specs.inside.Task.{join, Progress, Task, FromBlock, FromTerminal, Nothing, left, pending, Spells}
use Rattle.rc_build.specs.inside.Built.{BuiltPrefix, BuiltList, Refused}
use Rattle.rc_build.proofs.MarksLemmas.{front_sound, referenced_fewer, times_append}
use Rattle.rc_build.proofs.UsableLemmas.{filled}
use Rattle.rc_runs.proofs.OneTree.{one_terminal, one_statement, rest_at, terminal_at}

-- statements after others, and none after them
join-append : (a b : Statements) (rest : Statements) → join (join a b) rest ≡ join a (join b rest)
join-append Nil b rest = refl
join-append (Cons s a) b rest = ap (Cons s) (join-append a b rest)

join-nil : (a : Statements) → join a Nil ≡ a
join-nil Nil = refl
join-nil (Cons s a) = ap (Cons s) (join-nil a)

statements_of-join : (a b : Statements) → statements_of (join a b) ≡ statements_of a ++ statements_of b
statements_of-join Nil b = refl
statements_of-join (Cons s a) b = ap (λ z. statement_of s ∷ z) (statements_of-join a b)

module _ (hir : HirFunction) where
  -- nothing is marked yet
  pub marking_none : (waiting : List BlockId) (marks : Marks) → AreMarked hir marks
      → MarksBlocks hir waiting waiting marks marks []
  marking_none waiting marks m = record { used = sym (append-nil marks.used); marked = m; referenced = λ more h. h }

  -- blocks are marked, and then further ones
  pub marking_then : {a b c : List BlockId} {old mid new : Marks} {xs ys : List BlockId}
      → MarksBlocks hir a b old mid xs → MarksBlocks hir b c mid new ys → MarksBlocks hir a c old new (xs ++ ys)
  marking_then {old = old} {xs = xs} {ys = ys} f g = record {
    used = g.used ∙ ap (λ z. z ++ ys) f.used ∙ append_assoc old.used xs ys;
    marked = g.marked;
    referenced = λ more h. g.referenced more (f.referenced more h);
  }

  -- fewer of the pending references are left
  pub marking_drop : {a b c : List BlockId} {old new : Marks} {xs : List BlockId}
      → ((key : BlockId) → times key c ≤ times key b) → MarksBlocks hir a b old new xs → MarksBlocks hir a c old new xs
  marking_drop {b = b} {c = c} {new = new} d f = record {
    used = f.used;
    marked = f.marked;
    referenced = λ more h. referenced_fewer hir new.used (c ++ more) (b ++ more)
        (λ key. omega (arith, d key, times_append key b more, times_append key c more)) (f.referenced more h);
  }

  -- more references were pending
  pub marking_more : {a b c : List BlockId} {old new : Marks} {xs : List BlockId}
      → ((key : BlockId) → times key b ≤ times key a) → MarksBlocks hir b c old new xs → MarksBlocks hir a c old new xs
  marking_more {a = a} {b = b} {old = old} d f = record {
    used = f.used;
    marked = f.marked;
    referenced = λ more h. f.referenced more (referenced_fewer hir old.used (b ++ more) (a ++ more)
        (λ key. omega (arith, d key, times_append key a more, times_append key b more)) h);
  }

  -- further references stay pending beside those of the marked blocks
  pub marking_beside : {before more : List BlockId} {old new : Marks} {xs : List BlockId}
      → MarksBlocks hir before [] old new xs → MarksBlocks hir (before ++ more) more old new xs
  marking_beside {before = before} {more = more} {old = old} f = record {
    used = f.used;
    marked = f.marked;
    referenced = λ others h. f.referenced (more ++ others) (subst (AreReferenced hir old.used) (append_assoc before more others) h);
  }

  -- where blocks are sound after the used ones, so is their front
  pub refused_front : (used front back : List BlockId) {blocks : List BlockId} → AreSound hir (used ++ blocks)
      → blocks ≡ front ++ back → AreSound hir (used ++ front)
  refused_front used front back s e = front_sound hir (used ++ front) back
      (subst (AreSound hir) (ap (λ z. used ++ z) e ∙ sym (append_assoc used front back)) s)

  -- and so is their back, once the front is used
  pub refused_back : (used front back : List BlockId) {blocks later : List BlockId} → AreSound hir (used ++ blocks)
      → blocks ≡ front ++ back → later ≡ used ++ front → AreSound hir (later ++ back)
  refused_back used front back s e l =
      subst (AreSound hir) (ap (λ z. used ++ z) e ∙ sym (append_assoc used front back) ∙ ap (λ z. z ++ back) (sym l)) s

-- the statements of rows
rows_join : (rows : List Instruction) (rest : Statements) → rows_before rows rest ≡ join (rows_before rows Nil) rest
rows_join [] rest = refl
rows_join (row ∷ rows) rest =
    ap (Cons (RowStatement row.id (Some row.lvalue) (Base row.value) row.span)) (rows_join rows rest)

rows_put : (rows : List Instruction) → statements_of (rows_before rows Nil) ≡ map row_statement_of rows
rows_put [] = refl
rows_put (row ∷ rows) = ap (λ z. row_statement_of row ∷ z) (rows_put rows)

-- a fallthrough is there where it is opened
pub is_some-opened : {at : Option BlockId} (is_open : Bool) (fallthrough : BlockId) → at ≡ open_block is_open fallthrough
    → is_some at ≡ is_open
is_some-opened true fallthrough is = ap is_some is
is_some-opened false fallthrough is = ap is_some is

-- where a list goes on is at most its fallthrough
pending_le : (is_open : Bool) (fallthrough key : BlockId)
    → times key (pending (left (open_block is_open fallthrough))) ≤ times key (fallthrough ∷ [])
pending_le true fallthrough key = omega arith
pending_le false fallthrough key = omega arith

module _ {s : Setting} where
  -- nothing is built yet
  pub prefix_none : (task : Task) (at : Progress) → AreMarked s.hir at.marks → BuiltPrefix s task task at at
  prefix_none task at m = record {
    statements = Nil;
    newly = [];
    put = sym (append-nil at.out);
    marking = marking_none s.hir (pending task) at.marks m;
    onward = λ later used d. d;
    only = λ all used d. (all, used, d, refl);
  }

  -- one after the other
  pub prefix_then : {a b c : Task} {x y z : Progress} → BuiltPrefix s a b x y → BuiltPrefix s b c y z
      → BuiltPrefix s a c x z
  prefix_then {a = a} {x = x} p q = record {
    statements = join p.statements q.statements;
    newly = p.newly ++ q.newly;
    put = q.put ∙ ap (λ z. z ++ statements_of q.statements) p.put
        ∙ append_assoc x.out (statements_of p.statements) (statements_of q.statements)
        ∙ ap (λ z. x.out ++ z) (sym (statements_of-join p.statements q.statements));
    marking = marking_then s.hir p.marking q.marking;
    onward = λ later used d. subst (λ z. Spells s a z ((p.newly ++ q.newly) ++ used))
        (sym (join-append p.statements q.statements later))
        (subst (Spells s a (join p.statements (join q.statements later))) (sym (append_assoc p.newly q.newly used))
        (p.onward (join q.statements later) (q.newly ++ used) (q.onward later used d)));
    only = λ all used d.
        let h = p.only all used d in
        let k = q.only h.0 h.1 h.2 in
        (k.0, k.1, k.2, h.3 ∙ ap (λ z. p.newly ++ z) k.3 ∙ sym (append_assoc p.newly q.newly k.1));
  }

  -- what is left is refused
  pub prefix_refused : {a b : Task} {x y : Progress} → BuiltPrefix s a b x y → Refused s.hir (Spells s b) y.marks.used
      → Refused s.hir (Spells s a) x.marks.used
  prefix_refused {x = x} p none all used d sound =
      let h = p.only all used d in
      none h.0 h.1 h.2 (refused_back s.hir x.marks.used p.newly h.1 sound h.3 p.marking.used)

  -- a list that is built to its end, where no statement was in front of it
  pub whole_list : {key : BlockId} {marks : Marks} {start outer kept list : List ReactiveStatement} {y : Progress}
      → BuiltPrefix s (FromBlock key) Nothing (record { marks = marks; out = start }) y → start ≡ [] → list ≡ y.out
      → kept ≡ outer
      → BuiltList s key list (record { marks = marks; out = outer }) (record { marks = y.marks; out = kept })
  whole_list {key = key} p none is same = record {
    value = p.statements;
    newly = p.newly;
    is = is ∙ p.put ∙ ap (λ z. z ++ statements_of p.statements) none;
    spelled = subst (λ z. Spells s (FromBlock key) z p.newly) (join-nil p.statements)
        (subst (Spells s (FromBlock key) (join p.statements Nil)) (append-nil p.newly) (p.onward Nil [] (refl, refl)));
    marking = p.marking;
    kept = same;
  }

  -- a block: its rows, and then its terminal
  pub block_prefix : (key : BlockId) (found : BasicBlock) (rows : List Instruction) {old new : Progress}
      → usable_block s.hir key ≡ Some (filled found rows) → is_jump_target s.context.frames key ≡ false
      → new.out ≡ old.out ++ map row_statement_of rows
      → MarksBlocks s.hir (key ∷ []) (referenced_blocks found.terminal) old.marks new.marks (key ∷ [])
      → BuiltPrefix s (FromBlock key) (FromTerminal found.terminal) old new
  block_prefix key found rows {old = old} usable apart e marking = record {
    statements = rows_before rows Nil;
    newly = key ∷ [];
    put = e ∙ ap (λ z. old.out ++ z) (sym (rows_put rows));
    marking = marking;
    onward = λ rest used d. from_block usable apart d (sym (rows_join rows rest));
    only = only;
  }
    where
      only : (all : Statements) (used : List BlockId) → SpellsList s.hir s.env key s.context all used →
          (rest : Statements) × (later : List BlockId) × SpellsTerminal s.hir s.env found.terminal s.context rest
          later × (used ≡ key ∷ later)
      only all used (from_block {rest = rest} {used = later} {block = other} u l d w) =
          let same : other ≡ filled found rows = cc in
          (rest, later, terminal_at same d, refl)

  -- a block that no tree may use there
  pub block_refused : (key : BlockId) (marks : Marks) → IsUnusable s.hir s.context.frames key marks
      → Refused s.hir (Spells s (FromBlock key)) marks.used
  block_refused key marks none all used (from_block {used = later} {block = found} u l d w) sound =
      none found u l (refused_front s.hir marks.used (key ∷ []) later sound refl)

  -- a terminal that ends its list, with parts that are marked
  pub end_prefix : (terminal : Terminal) (statements : Statements) {blocks : List BlockId} {old new : Progress}
      → new.out ≡ old.out ++ statements_of statements
      → SpellsTerminal s.hir s.env terminal s.context statements blocks
      → MarksBlocks s.hir (referenced_blocks terminal) [] old.marks new.marks blocks
      → BuiltPrefix s (FromTerminal terminal) Nothing old new
  end_prefix terminal statements {blocks} e d marking = record {
    statements = statements;
    newly = blocks;
    put = e;
    marking = marking;
    onward = λ later used h. subst (λ z. SpellsTerminal s.hir s.env terminal s.context (join statements z) (blocks ++ used))
        (sym h.0)
        (subst (λ z. SpellsTerminal s.hir s.env terminal s.context (join statements Nil) (blocks ++ z)) (sym h.1)
        (subst (SpellsTerminal s.hir s.env terminal s.context (join statements Nil)) (sym (append-nil blocks))
        (subst (λ z. SpellsTerminal s.hir s.env terminal s.context z blocks) (sym (join-nil statements)) d)));
    only = λ all used h. (Nil, [], (refl, refl), (one_terminal h d).1 ∙ sym (append-nil blocks));
  }

  -- one without parts
  pub leaf_prefix : (terminal : Terminal) (statements : Statements) {out whole : List ReactiveStatement} (marks : Marks)
      → AreMarked s.hir marks → whole ≡ out ++ statements_of statements →
      SpellsTerminal s.hir s.env terminal s.context statements []
      → BuiltPrefix s (FromTerminal terminal) Nothing (record { marks = marks; out = out })
      (record { marks = marks; out = whole })
  leaf_prefix terminal statements marks m e d = end_prefix terminal statements e d
      (marking_drop s.hir (λ key. omega arith) (marking_none s.hir (referenced_blocks terminal) marks m))

  rest_left : (is_open : Bool) (fallthrough : BlockId) (rest : Statements) (used : List BlockId)
      → Spells s (left (open_block is_open fallthrough)) rest used
      → SpellsRest s.hir s.env is_open fallthrough s.context rest used
  rest_left true fallthrough rest used d = has_rest d
  rest_left false fallthrough rest used d =
      subst (λ z. SpellsRest s.hir s.env false fallthrough s.context z used) (sym d.0)
      (subst (SpellsRest s.hir s.env false fallthrough s.context Nil) (sym d.1) no_rest)

  left_rest : (is_open : Bool) (fallthrough : BlockId) (rest : Statements) (used : List BlockId)
      → SpellsRest s.hir s.env is_open fallthrough s.context rest used
      → Spells s (left (open_block is_open fallthrough)) rest used
  left_rest true fallthrough rest used (has_rest d) = d
  left_rest false fallthrough rest used no_rest = (refl, refl)

  -- what follows a statement
  after_statement : {terminal : Terminal} {is_open : Bool} {fallthrough : BlockId} {statement : Statement}
      {blocks : List BlockId} → SpellsStatement s.hir s.env terminal s.context is_open fallthrough statement blocks →
      (all : Statements) (used : List BlockId) → SpellsTerminal s.hir s.env terminal s.context all used →
      (rest : Statements) × (later : List BlockId) × SpellsRest s.hir s.env is_open fallthrough s.context rest later
      × (used ≡ blocks ++ later)
  after_statement (value_statement i j n a u) all used returns = elim n [ ]
  after_statement (value_statement i j n a u) all used (throws h) = elim n [ ]
  after_statement (value_statement i j n a u) all used unreachable = elim n [ ]
  after_statement (value_statement i j n a u) all used (breaks e) = elim n [ ]
  after_statement (value_statement i j n a u) all used (continues e) = elim n [ ]
  after_statement (value_statement i j n a u) all used (leaves_try e) = elim n [ ]
  after_statement (value_statement i j n a u) all used (may_throw_last h e) = elim n [ ]
  after_statement (value_statement i j n a u) all used (may_throw h e d) = elim n [ ]
  after_statement (value_statement i j n a u) all used (branch_arms x y w) = elim n [ ]
  after_statement (value_statement i j n a u) all used (branch_break l b e) = elim n [ ]
  after_statement d all used (and_rest {rest = rest} {rest_used = later} d' r w) =
      let h = one_statement d d' in
      (rest, later, rest_at (sym h.1) (sym h.0) r, w ∙ ap (λ z. z ++ later) (sym h.3))

  -- a statement, and then what its fallthrough spells
  pub statement_prefix : {terminal : Terminal} {at : Option BlockId} (is_open : Bool) {fallthrough : BlockId}
      {statement : Statement} {blocks : List BlockId} {old new : Progress} → at ≡ open_block is_open fallthrough
      → SpellsStatement s.hir s.env terminal s.context (is_some at) fallthrough statement blocks
      → new.out ≡ old.out ++ statement_of statement ∷ []
      → MarksBlocks s.hir (referenced_blocks terminal) (fallthrough ∷ []) old.marks new.marks blocks
      → BuiltPrefix s (FromTerminal terminal) (left at) old new
  statement_prefix {terminal} {at} is_open {fallthrough} {statement} {blocks} {old} {new} o d e f =
      subst (λ z. BuiltPrefix s (FromTerminal terminal) (left z) old new) (sym o) (record {
        statements = Cons statement Nil;
        newly = blocks;
        put = e;
        marking = marking_drop s.hir (pending_le is_open fallthrough) f;
        onward = λ later used h. and_rest spelled (rest_left is_open fallthrough later used h) refl;
        only = λ all used h. let k = after_statement spelled all used h in
            (k.0, k.1, left_rest is_open fallthrough k.0 k.1 k.2, k.3);
      })
    where
      spelled : SpellsStatement s.hir s.env terminal s.context is_open fallthrough statement blocks
      spelled = subst (λ z. SpellsStatement s.hir s.env terminal s.context z fallthrough statement blocks)
          (is_some-opened is_open fallthrough o) d
