-- Statements that are pruned in their place up to the first one that gives way, over plain variables.
use Rattle.std.proofs.Common.{◌≡◌, ◌∙◌, ◌+◌, ℕ, add-one, Bool, true, false, [], ◌∷◌, ◌++◌, Some}
use Rattle.std.proofs.Common.{Ok, drop, length, reverse, slice_get, slice_set, take, refl, sym, ap, arith}
use Rattle.std.proofs.lemmas.List.{append-nil, drop-drop, drop-set-lt, length-set}
use Rattle.std.proofs.lemmas.List.{reverse-reverse, take-set, take_more_set}
use Rattle.std.proofs.lemmas.Option.{slice_get_within}
use Rattle.rc_checks.proofs.LabelPruning.PruningLemmas.{all_of, behind_nothing, first_put}
use Rattle.rc_checks.specs.inside.LabelPruning.{IsFrontPruned, put_behind}
use Rattle.rc_walk.specs.Statements.{TreeStatements, added_if}
use Rattle.rc_checks.specs.Labels.{Targets, label_rules}
use Rattle.rc_tree.proofs.PlaceLemmas.{at_place}
use Rattle.rc_tree.specs.Rebuilt.{rebuilt_statement}
use Rattle.rc_tree.specs.Model.{ReactiveStatement}

-- those in front of the index stay and are pruned, and those from it on are as they were
pub record FrontSoFar (all : TreeStatements) (targets : Targets) (i : ℕ) (now : TreeStatements) (targets1 : Targets)
    (done : TreeStatements) : Type 0 where
  pub as_long : length now ≡ length all
  pub behind : drop i now ≡ drop i all
  pub none_done : done ≡ []
  pub put : put_behind (take i now) (all_of (drop i all) targets1) ≡ all_of all targets

pub front_begins : (all done : TreeStatements) (t : Targets) → done ≡ [] → FrontSoFar all t 0 all t done
front_begins all done t none = record {
  as_long = refl;
  behind = refl;
  none_done = none;
  put = behind_nothing (all_of all t);
}

-- the replacement of the statement at the index
module _ (all now done done1 : TreeStatements) (t t1 t2 : Targets) (i : ℕ) (x y : ReactiveStatement)
    (so_far : FrontSoFar all t i now t1 done) (there : slice_get now i ≡ Some x) where
  later : drop (i + 1) now ≡ drop (i + 1) all
  later = sym (drop-drop 1 i now) ∙ ap (drop 1) so_far.behind ∙ drop-drop 1 i all

  later_now : drop (i + 1) (slice_set now i y) ≡ drop (i + 1) all
  later_now = drop-set-lt (i + 1) now i y (omega arith) ∙ later

  from_here : drop i all ≡ x ∷ drop (i + 1) all
  from_here =
      let split : drop i now ≡ x ∷ drop (i + 1) now = rw add-one (at_place now i x there) in
      sym so_far.behind ∙ split ∙ ap (λ l. x ∷ l) later

  -- it is put after those before it
  next_behind : (more : TreeStatements) → put_behind done (rebuilt_statement label_rules x t1) ≡ Ok (t2, more)
      → put_behind (take i now ++ more) (all_of (drop (i + 1) all) t2) ≡ all_of all t
  next_behind more e =
      let alone : rebuilt_statement label_rules x t1 ≡ Ok (t2, more) =
      sym (behind_nothing (rebuilt_statement label_rules x t1)) ∙ (rw so_far.none_done at e) in
      let put : put_behind (take i now) (rebuilt_statement label_rules x t1) ≡ Ok (t2, take i now ++ more) =
      ap (put_behind (take i now)) alone in
      sym (first_put x t1 t2 (take i now) (take i now ++ more) put (drop (i + 1) all))
      ∙ ap (λ l. put_behind (take i now) (all_of l t1)) (sym from_here) ∙ so_far.put

  pub one_stays : (stays : Bool) → stays ≡ true
      → put_behind done (rebuilt_statement label_rules x t1) ≡ Ok (t2, done1 ++ added_if stays y)
      → (stays ≡ true → done1 ≡ done) → FrontSoFar all t (i + 1) (slice_set now i y) t2 done1
  one_stays stays h e alone =
      let none : done1 ≡ [] = alone h ∙ so_far.none_done in
      record {
        as_long = length-set now i y ∙ so_far.as_long;
        behind = later_now;
        none_done = none;
        put = rw (take_more_set now i y (slice_get_within now i x there)) (next_behind (y ∷ []) (rw (h, none) at e));
      }

  pub one_gives_way : (stays : Bool) → stays ≡ false
      → put_behind done (rebuilt_statement label_rules x t1) ≡ Ok (t2, done1 ++ added_if stays y)
      → IsFrontPruned all t i (slice_set now i y) t2 done1
  one_gives_way stays h e = record {
    behind = later_now;
    put = rw (take-set now i y) (next_behind done1 (rw (h, append-nil done1) at e));
  }

-- all statements, from those pruned in their place and those after them
pub all_put : (all now done : TreeStatements) (t t1 : Targets) (staying : ℕ)
    → IsFrontPruned all t staying now t1 done
    → put_behind (take staying now ++ done) (all_of (reverse (reverse (drop (staying + 1) now))) t1)
    ≡ put_behind [] (all_of all t)
all_put all now done t t1 staying front =
    rw (reverse-reverse (drop (staying + 1) now), front.behind, behind_nothing (all_of all t)) front.put
