-- What a block with one more label around it adds to the table.
use Rattle.std.proofs.Common.{◌≡◌, ℕ, List, [], ◌∷◌, ◌++◌, Option, Some, None, length, reverse, refl, sym, ap, ◌∙◌, subst}
use Rattle.std.proofs.lemmas.List.{reverse-append, reverse-reverse}
use Rattle.rc_hir.specs.Model.{Environment}
use Rattle.rc_tree.specs.Model.{ReactiveBlock, ReactiveLabel}
use Rattle.rc_runs.specs.Returning.{returning_after}
use Rattle.rc_replay.specs.declared.exits.Around.{Around}
use Rattle.rc_replay.specs.declared.exits.Exits.{Exits as LaidExits}
use Rattle.rc_replay.specs.declared.exits.LabelExit.{LabelExit}
use Rattle.rc_replay.specs.declared.layout.Layout.{Layout}
use Rattle.rc_replay.specs.inside.Exits.{Exits, inside_label}
use Rattle.rc_replay.specs.inside.LaidBody.{LaysBlock, LaysPart, LaysAlternate}
use Rattle.rc_replay.specs.inside.LaidExits.{part_exits}
use Rattle.rc_replay.specs.inside.Layout.{HasList}
use Rattle.rc_replay.specs.inside.Lowered.{LowersList}
use Rattle.rc_replay.specs.inside.Lowered as lower
use Rattle.rc_replay.proofs.LayoutLemmas.{lays_more, lays_none}

-- the exits of a part by the labels around it, innermost first
abbrev with_labels : LaidExits → List LabelExit → Exits
with_labels exits labels = record {
  normal = exits.normal;
  innermost_break = exits.innermost_break;
  innermost_continue = exits.innermost_continue;
  labels = labels;
  throws = exits.throws;
}

-- lists that end in one entry each
front_same : {X : Type 0} (xs ys : List X) (x y : X) → xs ++ x ∷ [] ≡ ys ++ y ∷ [] → xs ≡ ys
front_same xs ys x y e =
    let turned : x ∷ reverse xs ≡ y ∷ reverse ys =
    sym (reverse-append xs (x ∷ [])) ∙ ap reverse e ∙ reverse-append ys (y ∷ []) in
    let rest : reverse xs ≡ reverse ys = cc in
    sym (reverse-reverse xs) ∙ ap reverse rest ∙ reverse-reverse ys

module _ {env : Environment} {exits : LaidExits} {block : ReactiveBlock} where
  pub part_unlabeled : {around : Around} {start : ℕ} {a b : Layout} → around.label ≡ None
      → LaysBlock env exits block a b start → LaysPart env exits around block a b start
  part_unlabeled {around} {start} {a} e l = record {
    plain = l.plain;
    same = l.same;
    lays = lays_more (λ table h. subst (λ labels. LowersList table env (with_labels exits labels)
        (returning_after env None l.plain) start) (ap (λ label. inside_label label around.break_to around.continue_to
        (reverse a.labels)) (sym e)) h) l.lays;
  }

  pub part_labeled : {around : Around} {label : ReactiveLabel} {start : ℕ} {a b mid inner : Layout} (last : LabelExit)
      → around.label ≡ Some label → mid.positions ≡ a.positions
      → mid.labels ≡ a.labels ++ record {
        block = label.id;
        break_to = around.break_to;
        continue_to =
            around.continue_to;
      } ∷ [] → LaysBlock env exits block mid inner start → inner.labels ≡ b.labels ++ last ∷ []
      → b.positions ≡ inner.positions → LaysPart env exits around block a b start
  part_labeled {around} {label} {start} {a} {b} {mid} last e positions labels l popped kept =
      let own : LabelExit =
      record { block = label.id; break_to = around.break_to; continue_to = around.continue_to } in
      let around_it : reverse mid.labels ≡ inside_label around.label around.break_to around.continue_to (reverse a.labels) =
      ap reverse labels ∙ reverse-append a.labels (own ∷ [])
      ∙ ap (λ label. inside_label label around.break_to around.continue_to (reverse a.labels)) (sym e) in
      record {
        plain = l.plain;
        same = l.same;
        lays = record {
          added = l.lays.added;
          labels = front_same b.labels a.labels last own (sym popped ∙ l.lays.labels ∙ labels);
          grown = kept ∙ l.lays.grown ∙ ap (λ v. v ++ l.lays.added) positions;
          laid = λ table has. subst (λ labels. LowersList table env (with_labels exits labels)
              (returning_after env None l.plain) start) around_it (l.lays.laid table
              (subst (λ v. HasList table (length v) l.lays.added) (sym positions) has));
        };
      }
