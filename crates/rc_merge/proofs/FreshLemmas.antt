-- A scope that joins a head recomputes only where the head does, in each render in which the head's values change only
-- where it recomputes, and copies only where what they copy does; so it is at each place of a list.
use Rattle.std.proofs.Common.{◌≡◌, List, [], ◌∷◌, Option, Some, None, Bool, true, false, refl, sym, ◌∙◌}
use Rattle.std.proofs.Common.{subst, map, inl, inr}
use Rattle.std.specs.Prelude.{◌⊎◌, ◌&&◌, ◌||◌, Contains, if◌then◌else◌, not}
use Rattle.std.specs.List.{list_all}
use Rattle.std.specs.Option.{option_map_or}
use Rattle.std.proofs.lemmas.Bool.{and_parts, or_cases}
use Rattle.rc_hir.specs.Environment.{declaration_of}
use Rattle.rc_hir.specs.Model.{DeclarationEntry, Environment, ReactiveScope, ReactiveScopeDependency}
use Rattle.rc_names.specs.Numbers.{DeclarationId, same_id}
use Rattle.rc_names.proofs.NumbersLemmas.{same_id-eq}
use Rattle.rc_merge.specs.Inputs.{Input, as_inputs, input_of, inputs_of, whole}
use Rattle.rc_merge.specs.Joining.{Copies, always_invalidates, are_used_below, declared_copy, declared_name, declares}
use Rattle.rc_merge.specs.Joining.{depends_on_outputs, grown, grown_end, invalidates_with, is_empty, is_from}
use Rattle.rc_merge.specs.Joining.{is_still_used, is_there, joins, put_declaration, put_declarations, reassign_nothing}
use Rattle.rc_merge.specs.Joining.{shares_inputs, source_of, takes_outputs, with_copy, with_copy_of}
use Rattle.rc_merge.specs.LastUses.{LastUses}
use Rattle.rc_merge.specs.Groups.{copies_at, group_at, head_after, head_at, joins_at, joins_if, names_at, notes}
use Rattle.rc_merge.specs.Places.{Copy, Loads, Stores, Item, Passed, Block, Other, NumberedScope, PassedRow}
use Rattle.rc_merge.specs.Renders.{Changes, Render, copied_name, source_name}
use Rattle.rc_merge.proofs.Elements.{In, here, there, in_all, in_any, in_filter, in_map}
use Rattle.rc_merge.proofs.GroupsHold.{Each, Grows, HeadHolds, head_holds}
use Rattle.rc_merge.proofs.SameLemmas.{same_covers}

-- an entry of declarations after others were put is one of either

put_step : (b : Bool) (o x p : DeclarationEntry) (ps put : List DeclarationEntry)
    → In x (if b then o ∷ ps else p ∷ put) → (In x put → In x ps ⊎ (x ≡ o)) → In x (p ∷ ps) ⊎ (x ≡ o)
put_step true o _ p ps put here f = inr refl
put_step true o x p ps put (there n) f = inl (there n)
put_step false o _ p ps put here f = inl here
put_step false o x p ps put (there n) f = elim (f n) [ inl k ↦ inl (there k) | inr e ↦ inr e ]

in_put : (os : List DeclarationEntry) (o x : DeclarationEntry) → In x (put_declaration os o) → In x os ⊎ (x ≡ o)
in_put [] o _ here = inr refl
in_put [] o x (there m) = elim m [ ]
in_put (p ∷ ps) o x m = put_step (same_id p.key o.key) o x p ps (put_declaration ps o) m (in_put ps o x)

pub in_puts : (os ps : List DeclarationEntry) (x : DeclarationEntry) → In x (put_declarations os ps)
    → In x os ⊎ In x ps
in_puts os [] x m = inl m
in_puts os (p ∷ ps) x m = elim (in_puts (put_declaration os p) ps x m) [
  | inl k ↦ elim (in_put os p x k) [ inl n ↦ inl n | inr e ↦ inr (subst (λ y. In y (p ∷ ps)) (sym e) here) ]
  | inr k ↦ inr (there k)
]

module _ (env : Environment) (render : Render) where
  -- a scope with these dependencies recomputes
  pub record Needs (dependencies : List ReactiveScopeDependency) : Type 0 where
    pub input : Input
    pub changed : Contains render input
    pub needed : In input (inputs_of env dependencies)

  -- what the scope declares changes only where it recomputes
  abbrev pub Covered : ReactiveScope → Type 0
  Covered scope = (entry : DeclarationEntry) → In entry scope.declarations
      → Changes render (declared_name env entry) → Needs scope.dependencies

  -- a copy changes only where what it copies does
  abbrev pub CopiesFollow : Copies → Type 0
  CopiesFollow copies = (name from : DeclarationId) → copies name ≡ Some from → Changes render name
      → Changes render from

  changes_by : (input : Input) → Contains render input → Changes render input.declaration
  changes_by input m = record { input = input; changed = m; is_of = refl }

  by_inputs : (head next : ReactiveScope) → shares_inputs env head next ≡ true
      → Needs next.dependencies → Needs head.dependencies
  by_inputs head next e p = record {
    input = p.input;
    changed = p.changed;
    needed = same_covers (inputs_of env head.dependencies) (inputs_of env next.dependencies) e p.input p.needed;
  }

  by_outputs : (head next : ReactiveScope) → Covered head → takes_outputs env head next ≡ true
      → Needs next.dependencies → Needs head.dependencies
  by_outputs head next covered e p =
      let m = same_covers (as_inputs env head.declarations) (inputs_of env next.dependencies) e p.input p.needed in
      let t = in_map (λ (entry : DeclarationEntry). whole (declared_name env entry)) head.declarations p.input m in
      covered t.0 t.1 (subst (λ (input : Input). Changes render input.declaration) (sym t.2)
      (changes_by p.input p.changed))

  -- a declared name changes only where the scope recomputes
  by_declared : (head : ReactiveScope) → Covered head → (name : DeclarationId)
      → declares env head.declarations name ≡ true → Changes render name → Needs head.dependencies
  by_declared head covered name e changes =
      let found = in_any (same_id name) (map (declared_name env) head.declarations) e in
      let entry = in_map (declared_name env) head.declarations found.0 found.1 in
      covered entry.0 entry.1
      (subst (Changes render) (same_id-eq name found.0 found.2 ∙ sym entry.2) changes)

  module _ (copies : Copies) (head : ReactiveScope) (covered : Covered head) (follow : CopiesFollow copies) where
    by_copied : (name : DeclarationId) (found : Option DeclarationId) → copies name ≡ found
        → is_there (declared_copy env head.declarations found) ≡ true → Changes render name
        → Needs head.dependencies
    by_copied name None is e changes = absurd (let bad : ⊥ = cc in bad)
    by_copied name (Some from) is e changes = by (declares env head.declarations from) refl e
      where
        by : (b : Bool) → declares env head.declarations from ≡ b
            → is_there (if b then Some from else None) ≡ true → Needs head.dependencies
        by true declared e = by_declared head covered from declared (follow name from is changes)
        by false declared e = absurd (let bad : ⊥ = cc in bad)

    -- a name with a source among the declared ones changes only where the scope recomputes
    by_source : (name : DeclarationId) → is_there (source_of env copies head.declarations name) ≡ true
        → Changes render name → Needs head.dependencies
    by_source name e changes = by (declares env head.declarations name) refl e
      where
        by : (b : Bool) → declares env head.declarations name ≡ b
            → is_there (if b then Some name else declared_copy env head.declarations (copies name)) ≡ true
            → Needs head.dependencies
        by true declared e = by_declared head covered name declared changes
        by false declared e = by_copied name (copies name) refl e changes

    by_copies : (next : ReactiveScope) → depends_on_outputs env copies head next ≡ true
        → Needs next.dependencies → Needs head.dependencies
    by_copies next e p =
        let t = in_map (input_of env) next.dependencies p.input p.needed in
        let name : DeclarationId = declaration_of env t.0.identifier in
        let changes : Changes render name = subst (λ (input : Input). Changes render input.declaration) (sym t.2)
        (changes_by p.input p.changed) in
        let all = and_parts (not (is_empty next.dependencies))
        (list_all (is_from env copies head.declarations) next.dependencies) e in
        let is = in_all (is_from env copies head.declarations) next.dependencies all.1 t.0 t.1 in
        let most = and_parts (is_empty t.0.path) (always_invalidates env t.0.identifier
        && is_there (source_of env copies head.declarations name)) is in
        let last = and_parts (always_invalidates env t.0.identifier)
        (is_there (source_of env copies head.declarations name)) most.1 in
        by_source name last.1 changes

  -- a scope that joins recomputes only where the head does
  pub by_joins : (uses : LastUses) (copies : Copies) (head next : ReactiveScope) (names : List DeclarationId)
      → Covered head → CopiesFollow copies → joins env uses copies head names next ≡ true
      → Needs next.dependencies → Needs head.dependencies
  by_joins uses copies head next names covered follow e p =
      let shares = shares_inputs env head next in
      let takes = takes_outputs env head next in
      let depends = depends_on_outputs env copies head next in
      let all = and_parts (reassign_nothing env head next)
      (invalidates_with env copies head next && are_used_below uses next.range.end names) e in
      let most = and_parts (invalidates_with env copies head next) (are_used_below uses next.range.end names) all.1 in
      elim (or_cases shares (takes || depends) most.0) [
        | inl one ↦ by_inputs head next one p
        | inr more ↦ elim (or_cases takes depends more) [
          | inl two ↦ by_outputs head next covered two p
          | inr three ↦ by_copies copies head covered follow next three p
        ]
      ]

  -- a head that has grown is covered
  pub grown_covered : (uses : LastUses) (head next : NumberedScope) → Covered head.own → Covered next.own
      → (Needs next.own.dependencies → Needs head.own.dependencies) → Covered (grown env uses head next).own
  grown_covered uses head next covered own step entry m changes =
      let n = in_filter (is_still_used env uses (grown_end env head.own next.own))
      (put_declarations head.own.declarations next.own.declarations) entry m in
      elim (in_puts head.own.declarations next.own.declarations entry n) [
        | inl k ↦ covered entry k changes
        | inr k ↦ step (own entry k changes)
      ]

  follow_put : (copies : Copies) (to from : DeclarationId) → CopiesFollow copies
      → (Changes render to → Changes render from) → CopiesFollow (with_copy_of copies to from)
  follow_put copies to from follow now x y h changes = go (same_id x to) refl h
    where
      go : (b : Bool) → same_id x to ≡ b → (if b then Some from else copies x) ≡ Some y → Changes render y
      go true is h =
          let same_end : from ≡ y = cc in
          subst (Changes render) same_end (now (subst (Changes render) (same_id-eq x to is) changes))
      go false is h = follow x y h changes

  or_itself_follows : (found : Option DeclarationId) (from : DeclarationId)
      → ((other : DeclarationId) → found ≡ Some other → Changes render from → Changes render other)
      → Changes render from → Changes render (option_map_or (λ name. name) found from)
  or_itself_follows None from f changes = changes
  or_itself_follows (Some other) from f changes = f other refl changes

  -- the row's copy changes only where what it copies does
  abbrev pub CopyFollows : Option Copy → Type 0
  CopyFollows None = Unit {0}
  CopyFollows (Some copy) = Changes render (copied_name copy) → Changes render (source_name copy)

  follow_copy : (copies : Copies) (copy : Option Copy) → CopiesFollow copies → CopyFollows copy
      → CopiesFollow (with_copy copies copy)
  follow_copy copies None follow own = follow
  follow_copy copies (Some (Loads to from)) follow own = follow_put copies to from follow own
  follow_copy copies (Some (Stores to from)) follow own =
      follow_put copies to (option_map_or (λ name. name) (copies from) from) follow
      (λ changes. or_itself_follows (copies from) from (λ other h. follow from other h) (own changes))

  module _ (uses : LastUses) (copies : Copies) (start : CopiesFollow copies) where
    abbrev pub IsCovered : NumberedScope → Type 0
    IsCovered scope = Covered scope.own

    abbrev pub RowFollows : PassedRow → Type 0
    RowFollows row = CopyFollows row.copy

    -- before a place: rows' copies follow, and blocks are covered
    abbrev pub Fits : List Item → Type 0
    Fits = Each env IsCovered RowFollows

    pub copies_follow : (before : List Item) → Fits before → CopiesFollow (copies_at env uses copies before)
    copies_follow [] fits = start
    copies_follow (Block scope ∷ before) fits = copies_follow before fits.1
    copies_follow (Other ∷ before) fits = copies_follow before fits
    copies_follow (Passed row ∷ before) fits = go (notes env uses before) (copies_follow before fits.1)
      where
        go : (b : Bool) → CopiesFollow (copies_at env uses copies before)
            → CopiesFollow (if b then with_copy (copies_at env uses copies before) row.copy
            else copies_at env uses copies before)
        go true follow = follow_copy (copies_at env uses copies before) row.copy follow fits.0
        go false follow = follow

    pub grows : Grows env IsCovered RowFollows uses copies
    grows before fits head scope joined covered own =
        grown_covered uses head scope covered own (by_joins uses (copies_at env uses copies before) head.own scope.own
        (names_at before) covered (copies_follow before fits) joined)

    -- at each place of a list: a scope that joins recomputes only where the head of its group does
    pub fresh_at : (before : List Item) (scope : NumberedScope) → Fits before
        → joins_at env uses copies before scope ≡ true
        → Needs scope.own.dependencies → Needs (group_at env uses copies before scope).own.dependencies
    fresh_at before scope fits joined =
        go (head_at env uses copies before) (head_holds env IsCovered RowFollows uses copies grows before fits) joined
      where
        joins_head : Option NumberedScope → Bool
        joins_head head = joins_if env uses (copies_at env uses copies before) head (names_at before) scope

        by : (head : NumberedScope) (b : Bool) → b ≡ true → Needs head.own.dependencies
            → Needs (head_after env uses b (Some head) scope).own.dependencies
        by head true e q = q
        by head false e q = absurd (let bad : ⊥ = cc in bad)

        go : (head : Option NumberedScope) → HeadHolds env IsCovered RowFollows uses copies head
            → joins_head head ≡ true → Needs scope.own.dependencies
            → Needs (head_after env uses (joins_head head) head scope).own.dependencies
        go None covered is p = absurd (let bad : ⊥ = cc in bad)
        go (Some head) covered is p = by head (joins_head (Some head)) is
            (by_joins uses (copies_at env uses copies before) head.own scope.own (names_at before) covered
            (copies_follow before fits) is p)
