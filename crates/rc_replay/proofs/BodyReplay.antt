-- A body that is laid out after the position that nothing follows: the runs from its first position on are its own.
use Rattle.std.proofs.Common.{◌≡◌, ◌+◌, ℕ, false, List, [], ◌∷◌, ◌++◌, Some, length, slice_get, refl, sym, ap, ◌∙◌, subst, ◌↔◌}
use Rattle.std.proofs.Common.{append_assoc, arith}
use Rattle.std.specs.Option.{option_map}
use Rattle.std.proofs.lemmas.List.{length-append}
use Rattle.rc_hir.specs.Model.{Environment}
use Rattle.rc_tree.specs.Model.{ReactiveFunction}
use Rattle.rc_runs.specs.BodyRun.{IsBodyRun}
use Rattle.rc_runs.specs.Event.{Event, End, has_throw}
use Rattle.rc_runs.specs.Returning.{returning}
use Rattle.rc_replay.specs.declared.exits.Exits.{Exits as LaidExits}
use Rattle.rc_replay.specs.declared.layout.Layout.{Layout}
use Rattle.rc_replay.specs.declared.positions.Position.{Position as LaidPosition}
use Rattle.rc_replay.specs.declared.positions.Position.TheVariants as laid
use Rattle.rc_replay.specs.inside.Exits.{nowhere, outermost}
use Rattle.rc_replay.specs.inside.LaidBody.{LaysBlock}
use Rattle.rc_replay.specs.inside.LaidExits.{exits_of, laid_outermost}
use Rattle.rc_replay.specs.inside.Layout.{HasList, none_has, one_has}
use Rattle.rc_replay.specs.inside.Lowered.{LowersList}
use Rattle.rc_replay.specs.inside.Positions.{FollowsAt, Stops, position_of, table_of}
use Rattle.rc_replay.proofs.BodyRuns.{body_runs}

-- what is after the first part of a list
at_seam : {X : Type 0} (front following : List X) (x : X) → slice_get (front ++ x ∷ following) (length front) ≡ Some x
at_seam [] following x = refl
at_seam (other ∷ front) following x = at_seam front following x

-- a table has the positions that were added to it
has_added : (front added : List LaidPosition) → HasList (table_of (front ++ added)) (length front) added
has_added front [] = none_has
has_added front (position ∷ rest) =
    let more : length (front ++ position ∷ []) ≡ length front + 1 = length-append front (position ∷ []) in
    let whole : (front ++ position ∷ []) ++ rest ≡ front ++ position ∷ rest = append_assoc front (position ∷ []) rest in
    one_has (ap (option_map position_of) (at_seam front rest position))
    (subst (λ n. HasList (table_of (front ++ position ∷ rest)) n rest) more
    (subst (λ list. HasList (table_of list) (length (front ++ position ∷ [])) rest) whole
    (has_added (front ++ position ∷ []) rest)))

pub body_follows : {env : Environment} {func : ReactiveFunction} {exits : LaidExits} {old new : Layout} {start : ℕ}
    {events : List Event} {end : End} → old.positions ≡ laid.Stops ∷ [] → old.labels ≡ [] → exits ≡ laid_outermost
    → LaysBlock env exits func.body old new start → has_throw events ≡ false
    → FollowsAt (table_of new.positions) start events end ↔ IsBodyRun func env events end
body_follows {env} {func} {old = old} {new} {start} positions labels outside block no_throw =
    let l : LaysBlock env laid_outermost func.body old new start =
    subst (λ exits. LaysBlock env exits func.body old new start) outside block in
    let table = table_of new.positions in
    let whole : new.positions ≡ laid.Stops ∷ l.lays.added =
    l.lays.grown ∙ ap (λ front. front ++ l.lays.added) positions in
    let has : HasList table (length old.positions) l.lays.added =
    subst (λ list. HasList (table_of list) (length old.positions) l.lays.added) (sym l.lays.grown)
    (has_added old.positions l.lays.added) in
    let stops : table nowhere ≡ Some Stops = ap (λ list. table_of list nowhere) whole in
    let lowered : LowersList table env outermost (returning env l.plain) start =
    subst (λ labels. LowersList table env (exits_of laid_outermost labels) (returning env l.plain) start) labels
    (l.lays.laid table has) in
    body_runs l.plain (λ i. record { statements = sym l.same i }) stops lowered no_throw
