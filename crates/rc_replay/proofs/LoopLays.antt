-- What the parts of a loop add to the table is what the loop adds, where the position of its turns is filled in last.
use Rattle.std.proofs.Common.{◌≡◌, ℕ, ◌+◌, List, [], ◌∷◌, ◌++◌, Option, Some, None, length, slice_set, refl, sym, ap, ◌∙◌, subst}
use Rattle.std.proofs.Common.{append_assoc, arith, option_map, false, zero, suc, slice_get, ◌≤◌}
use Rattle.std.proofs.lemmas.List.{length-append}
use Rattle.rc_hir.specs.Model.{Environment}
use Rattle.rc_tree.specs.Model.{ReactiveBlock, ReactiveLabel, ReactiveValue}
use Rattle.rc_runs.specs.PlainTree.{Value}
use Rattle.rc_runs.specs.Returning.{returning_after}
use Rattle.rc_runs.specs.TreeOf.{value_of}
use Rattle.rc_replay.specs.declared.exits.Around.{Around}
use Rattle.rc_replay.specs.declared.exits.Exits.{Exits as LaidExits}
use Rattle.rc_replay.specs.declared.layout.After.{After}
use Rattle.rc_replay.specs.declared.layout.Layout.{Layout}
use Rattle.rc_replay.specs.declared.positions.Position.TheVariants as laid
use Rattle.rc_replay.specs.inside.Exits.{in_loop}
use Rattle.rc_replay.specs.inside.LaidBody.{BeginsBefore, LaysBefore, LaysPart, LaysLoop}
use Rattle.rc_replay.specs.inside.LaidExits.{exits_of, laid_loop}
use Rattle.rc_replay.specs.inside.Layout.{HasList, one_has, Lays, LaysValue, Has, Reserves, both}
use Rattle.rc_replay.specs.inside.LoweredValue.{LowersValue}
use Rattle.rc_replay.specs.inside.Lowered.{LowersBefore, LowersList, nothing_before, some_before, loop}
use Rattle.rc_replay.specs.inside.Positions.{Table, Passes, Tests}
use Rattle.rc_replay.proofs.LayoutLemmas.{lays_more, lays_none, lays_both}
use Rattle.rc_replay.proofs.ValueLays.{at_both}

-- a list whose entry after the first part is set
set_seam : {X : Type 0} (front following : List X) (old new : X)
    → slice_set (front ++ old ∷ following) (length front) new ≡ front ++ new ∷ following
set_seam [] following old new = refl
set_seam (x ∷ front) following old new = ap (λ v. x ∷ v) (set_seam front following old new)

-- nothing is found past the end
pub get_none : {X : Type 0} (xs : List X) (i : ℕ) → slice_get xs i ≡ None → length xs ≤ i
get_none [] i e = omega arith
get_none (x ∷ xs) zero e = absurd (let bad : ⊥ = cc in bad)
get_none (x ∷ xs) (suc i) e = let rest = get_none xs i e in omega (arith, rest)

-- a position that is reserved, then the parts after it, and then the position filled in
pub lays_filled : {a b c d : Layout} {turn next : ℕ} {F : Table → Type 0} → Reserves a b turn → Lays b c F
    → d.labels ≡ c.labels → d.positions ≡ slice_set c.positions turn (laid.Passes next)
    → Lays a d (λ table. Has turn (Passes next) table × F table)
lays_filled {a} {b} {c} {d} {turn} {next} {F} r l labels positions = record {
  added = laid.Passes next ∷ l.added;
  labels = labels ∙ l.labels ∙ r.labels;
  grown = positions ∙ ap (λ n. slice_set c.positions n (laid.Passes next)) r.at
      ∙ ap (λ v. slice_set v (length a.positions) (laid.Passes next)) whole
      ∙ set_seam a.positions l.added laid.Stops (laid.Passes next);
  laid = filled;
}
  where
    whole : c.positions ≡ a.positions ++ laid.Stops ∷ l.added
    whole = l.grown ∙ ap (λ v. v ++ l.added) r.grown ∙ append_assoc a.positions (laid.Stops ∷ []) l.added

    start : length a.positions + 1 ≡ length b.positions
    start = sym (ap length r.grown ∙ length-append a.positions (laid.Stops ∷ []))

    filled : (table : Table) → HasList table (length a.positions) (laid.Passes next ∷ l.added)
        → Has turn (Passes next) table × F table
    filled table (one_has here rest) = (
      ap table r.at ∙ here,
      l.laid table (subst (λ n. HasList table n l.added) start rest),
    )

pub before_none : {env : Environment} {tested : ℕ} {a : Layout} → LaysBefore env None tested a a tested
before_none = record { plain = None; same = refl; lays = lays_none (λ table. refl) }

pub before_some : {env : Environment} {value : ReactiveValue} {x : After} {tested start : ℕ} {a b : Layout}
    → x ≡ both tested → LaysValue env false value x a b start → LaysBefore env (Some value) tested a b start
before_some p l =
    let value = at_both refl p l in
    record { plain = Some value.plain; same = ap Some value.same; lays = value.lays }

-- turns begin with the value before the test, or with the test
begins : {env : Environment} {table : Table} {tested start turn : ℕ} (before : Option Value)
    → BeginsBefore env table before tested start → Has turn (Passes start) table
    → LowersBefore table env before tested turn
begins None e found = nothing_before (found ∙ ap (λ n. Some (Passes n)) e)
begins (Some value) l found = some_before l found

module _ {env : Environment} {exits : LaidExits} {label : Option ReactiveLabel} where
  pub lays_loop : {before : Option ReactiveValue} {test : ReactiveValue} {body : ReactiveBlock} {around : Around}
      {x : LaidExits} {z : After} {turn inner branch tested start : ℕ} {a b c d e f g : Layout} → Reserves a b turn
      → around ≡ record { label = label; break_to = exits.normal; continue_to = Some turn } → x ≡ laid_loop turn exits
      → LaysPart env x around body b c inner → Lays c d (Has branch (Tests inner exits.normal)) → z ≡ both branch
      → LaysValue env false test z d e tested → LaysBefore env before tested e f start → g.labels ≡ f.labels
      → g.positions ≡ slice_set f.positions turn (laid.Passes start)
      → LaysLoop env exits label before test body a g (record { turn = turn; test = tested; body = inner })
  lays_loop {body = body} {around} {x} {turn = turn} {inner} {tested = tested} {a = a} {b} {c} r p q part branch s value
      before labels positions =
      let own : LaysPart env (laid_loop turn exits) (record {
        label = label;
        break_to = exits.normal;
        continue_to = Some
            turn;
      }) body b c inner =
      subst (λ around. LaysPart env (laid_loop turn exits) around body b c inner) p
      (subst (λ x. LaysPart env x around body b c inner) q part) in
      let tests = at_both refl s value in
      let all = lays_filled r (lays_both (lays_both (lays_both own.lays branch) tests.lays) before.lays) labels
      positions in
      record {
        plain_before = before.plain;
        plain_test = tests.plain;
        plain_body = own.plain;
        same_before = before.same;
        same_test = tests.same;
        same_body = own.same;
        lays = lays_more (λ table h. loop (begins before.plain h.1.1 h.0) h.1.0.1 h.1.0.0.1
            (subst (λ labels. LowersList table env (in_loop label turn (exits_of exits labels))
            (returning_after env None own.plain) inner) r.labels h.1.0.0.0)) all;
      }
