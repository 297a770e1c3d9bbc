-- Through the whole tree: a scope that joined a head recomputes only where the head does, in each legal render, where
-- no copied name is written by two rows.
use Rattle.std.proofs.Common.{◌≡◌, ◌∙◌, List, [], ◌∷◌, Option, None, Some, true, map, refl, sym, ap}
use Rattle.std.proofs.Common.{subst}
use Rattle.rc_hir.specs.Model.{Environment, InstructionValue, Place}
use Rattle.rc_hir.specs.declared.instruction.InstructionValue.TheVariants as kinds
use Rattle.rc_names.specs.Numbers.{ScopeId}
use Rattle.rc_merge.proofs.DependenciesStay.{HasDependencies, HaveOwn, group_has_own, items_have_own}
use Rattle.rc_merge.proofs.DependenciesStay.{list_dependencies}
use Rattle.rc_merge.proofs.Elements.{In, Subset, here, contains_in, in_contains}
use Rattle.rc_merge.proofs.FreshLemmas.{CopiesFollow, CopyFollows, Covered, Fits, IsCovered, Needs, RowFollows}
use Rattle.rc_merge.proofs.FreshLemmas.{copies_follow, fresh_at, grows}
use Rattle.rc_merge.proofs.GroupsHold.{ListFits, ValueFits, items_each, own_at, scopes_hold}
use Rattle.rc_merge.proofs.LogLemmas.{EachEntry, each_both, each_none, each_one, joined_each}
use Rattle.rc_merge.proofs.MergingFacts.{IsOfStates, merging_facts}
use Rattle.rc_merge.proofs.RestLemmas.{rolled_back}
use Rattle.rc_merge.proofs.Touched.{IsIn, Touched, all_in_itself, of_parts, scope_in, touched_monoid, touched_parts}
use Rattle.rc_merge.specs.Freshness.{itself, joined, JoinsFresh, PartsFresh, RecomputesWith}
use Rattle.rc_merge.specs.Groups.{group_at, joins_at}
use Rattle.rc_merge.specs.Inputs.{inputs_of}
use Rattle.rc_merge.specs.LastUses.{LastUses, last_uses_in}
use Rattle.rc_merge.specs.Merged.{Merges, Progress, met_list}
use Rattle.rc_merge.specs.Merged.{nothing_met}
use Rattle.rc_merge.specs.MergedList.{joined_at}
use Rattle.rc_merge.specs.Places.{Copy, Item, Passed, Block, Other, NumberedScope, copy_of}
use Rattle.rc_merge.specs.Places.{items_of, passes}
use Rattle.rc_merge.specs.Renders.{HasCopiesOnce, IsLegal, Recomputes, Render}
use Rattle.rc_merge.specs.Writes.{copies_in, copies_of_value, is_copying, listed_if}
use Rattle.rc_tree.proofs.CollectedLemmas.{collected-Instruction, collected-Scope}
use Rattle.rc_tree.specs.Collected.{collected, collected_list, collected_statement}
use Rattle.rc_tree.specs.CollectedValues.{instruction_of}
use Rattle.rc_tree.specs.ScopesIn.{scopes_in}
use Rattle.rc_tree.specs.Unrolled.{UnrolledStatement}
use Rattle.rc_tree.specs.Model.{ReactiveBlock, ReactiveStatement}
use Rattle.rc_tree.specs.declared.fate.Fate.{Fate}
use Rattle.rc_tree.specs.declared.fate.Fate.TheVariants.{DissolvedInto, MergedInto}
use Rattle.rc_tree.specs.declared.fate.ScopeFate.{ScopeFate}
use Rattle.rc_tree.specs.declared.statement.ReactiveStatement.{out-ReactiveStatement, roll-ReactiveStatement}
use Rattle.rc_tree.specs.declared.statement.ReactiveStatement.TheOpen as layer
use Rattle.rc_tree.specs.declared.statement.ReactiveStatement.TheVariants as reactive

-- a row that passes copies for a render, if it copies
passing_copies : (value : InstructionValue) → passes value ≡ true → is_copying value ≡ true
passing_copies (kinds.StoreLocal lvalue value span) is = is
passing_copies value is = refl

module _ (env : Environment) (body : ReactiveBlock) (render : Render) (legal : IsLegal env body render)
    (once : HasCopiesOnce env body) where
  -- the scope with that number recomputes, by the dependencies that it had before merging
  abbrev NeedsAt : ScopeId → Type 0
  NeedsAt scope = Needs env render (own_at env.scopes scope).dependencies

  needs_recompute : (scope : ScopeId) → Recomputes env render scope → NeedsAt scope
  needs_recompute scope it = record {
    input = it.input;
    changed = it.changed;
    needed = in_contains (inputs_of env (own_at env.scopes scope).dependencies) it.input it.needed;
  }

  recompute_needs : (scope : ScopeId) → NeedsAt scope → Recomputes env render scope
  recompute_needs scope it = record {
    input = it.input;
    changed = it.changed;
    needed = contains_in (inputs_of env (own_at env.scopes scope).dependencies) it.input it.needed;
  }

  -- what is told of a scope that joined a head is fresh
  abbrev IsFresh : ScopeId → Fate → Type 0
  IsFresh scope (MergedInto head) = RecomputesWith env render scope head
  IsFresh scope _ = Unit {0}

  abbrev IsFreshEntry : ScopeFate → Type 0
  IsFreshEntry entry = IsFresh entry.scope entry.fate

  abbrev AreFresh : List ScopeFate → Type 0
  AreFresh = EachEntry IsFreshEntry

  -- the facts of each state
  record Stays (met : Progress) : Type 0 where
    dependencies : HasDependencies env.scopes met.scopes
    covered : (scope : ScopeId) → In scope (scopes_in body) → Covered env render (own_at met.scopes scope)
    follow : CopiesFollow env render met.copies
    fresh : AreFresh met.log

  copy_follows : (found : Option Copy) → Subset (listed_if true found) (copies_in env body)
      → CopyFollows env render found
  copy_follows None sub = tt
  copy_follows (Some copy) sub =
      let there_too = contains_in (copies_in env body) copy (sub copy here) in
      legal.copies copy there_too (once copy there_too)

  module _ (uses : LastUses) (met : Progress) (stays : Stays met) where
    abbrev ItemsFit : List Item → Type 0
    ItemsFit = Fits env render uses met.copies stays.follow

    value_fits : (target : Option Place) (value : Option InstructionValue)
        → Subset (copies_of_value env target value) (copies_in env body)
        → ValueFits env (IsCovered env render uses met.copies stays.follow)
        (RowFollows env render uses met.copies stays.follow) met.scopes target value
    value_fits target None sub = tt
    value_fits target (Some value) sub = λ is. copy_follows (copy_of env target value) (λ copy m. sub copy
        (subst (λ c. In copy (listed_if c (copy_of env target value))) (sym (passing_copies value is)) m))

    abbrev AreIn : List UnrolledStatement → Type 0
    AreIn us = IsIn env body (collected_list (touched_parts env) (map roll-ReactiveStatement us))

    abbrev one : UnrolledStatement → Touched
    one u = collected_statement (touched_parts env) (roll-ReactiveStatement u)

    rest_in : (u : UnrolledStatement) (us : List UnrolledStatement) → AreIn (u ∷ us) → AreIn us
    rest_in u us =
        (of_parts env body).second (one u) (collected_list (touched_parts env) (map roll-ReactiveStatement us))

    one_in : (u : UnrolledStatement) (us : List UnrolledStatement) → AreIn (u ∷ us) → IsIn env body (one u)
    one_in u us =
        (of_parts env body).first (one u) (collected_list (touched_parts env) (map roll-ReactiveStatement us))

    list_fits : (us : List UnrolledStatement) → AreIn us
        → ListFits env (IsCovered env render uses met.copies stays.follow)
        (RowFollows env render uses met.copies stays.follow) met.scopes us
    list_fits [] k = tt
    list_fits (layer.Instruction row ∷ us) k =
        let own = subst (IsIn env body) (ap (collected_statement (touched_parts env)) (reactive.rolls-Instruction row)
        ∙ collected-Instruction (touched_parts env) row) (one_in (layer.Instruction row) us k) in (
          value_fits row.lvalue (instruction_of row.value) own.copies,
          list_fits us (rest_in (layer.Instruction row) us k),
        )
    list_fits (layer.Terminal x ∷ us) k = (tt, list_fits us (rest_in (layer.Terminal x) us k))
    list_fits (layer.PrunedScope x ∷ us) k = (tt, list_fits us (rest_in (layer.PrunedScope x) us k))
    list_fits (layer.Scope block ∷ us) k =
        let own = subst (IsIn env body) (ap (collected_statement (touched_parts env)) (reactive.rolls-Scope block)
        ∙ collected-Scope (touched_parts env) block) (one_in (layer.Scope block) us k) in (
          stays.covered block.scope
              (scope_in env body block.scope (collected (touched_parts env) block.instructions) own),
          list_fits us (rest_in (layer.Scope block) us k),
        )

    -- what is told of the items is fresh
    abbrev Known : List Item → Type 0
    Known before = ItemsFit before × HaveOwn env uses met.copies met.scopes before

    known_rest : (it : Item) (before : List Item) → Known (it ∷ before) → Known before
    known_rest (Passed row) before k = (k.0.1, k.1.1)
    known_rest (Block of) before k = (k.0.1, k.1.1)
    known_rest Other before k = k

    told_fresh : (before : List Item) (of : NumberedScope) → Known (Block of ∷ before)
        → joins_at env uses met.copies before of ≡ true
        → RecomputesWith env render of.number (group_at env uses met.copies before of).number
    told_fresh before of k is it =
        let group = group_at env uses met.copies before of in
        let own : of.own.dependencies ≡ (own_at env.scopes of.number).dependencies =
        k.1.0 ∙ stays.dependencies of.number in
        let head : group.own.dependencies ≡ (own_at env.scopes group.number).dependencies =
        group_has_own env uses met.copies met.scopes before k.1.1 of k.1.0 ∙ stays.dependencies group.number in
        recompute_needs group.number (subst (Needs env render) head
        (fresh_at env render uses met.copies stays.follow before of k.0.1 is
        (subst (Needs env render) (sym own) (needs_recompute of.number it))))

  list_stays : (uses : LastUses) (met : Progress) (xs : List ReactiveStatement) → Stays met
      → IsIn env body (collected_list (touched_parts env) xs) → Stays (met_list env uses xs met).0
  list_stays uses met xs stays k =
      let us = map out-ReactiveStatement xs in
      let items = items_of env met.scopes us in
      let known = subst (λ ys. IsIn env body (collected_list (touched_parts env) ys)) (sym (rolled_back xs)) k in
      let fits = items_each env (IsCovered env render uses met.copies stays.follow)
      (RowFollows env render uses met.copies stays.follow) met.scopes us [] (list_fits uses met stays us known) tt in
      let own = items_have_own env uses met.copies met.scopes us in
      record {
        dependencies = list_dependencies env uses env.scopes met xs stays.dependencies;
        covered = λ scope m. scopes_hold env (IsCovered env render uses met.copies stays.follow)
            (RowFollows env render uses met.copies stays.follow) uses met.copies
            (grows env render uses met.copies stays.follow) (λ number it. Covered env render it) (λ of it. it)
            met.scopes items fits scope (stays.covered scope m);
        follow = copies_follow env render uses met.copies stays.follow items fits;
        fresh = each_both IsFreshEntry met.log (joined_at env uses met.copies met.scopes items) stays.fresh
            (joined_each IsFreshEntry env uses met.copies met.scopes (Known uses met stays) (known_rest uses met stays)
            (told_fresh uses met stays) items (fits, own));
      }

  states : (uses : LastUses) → IsOfStates env uses Stays (IsIn env body) (touched_parts env)
  states uses = record {
    around = λ met scope stays. record {
      dependencies = stays.dependencies;
      covered = stays.covered;
      follow = stays.follow;
      fresh = stays.fresh;
    };
    dissolved = λ met parent scope stays gives.
        let entry : ScopeFate = record { scope = scope; fate = DissolvedInto parent } in
        record {
          dependencies = stays.dependencies;
          covered = stays.covered;
          follow = stays.follow;
          fresh = each_both IsFreshEntry met.log (entry ∷ []) stays.fresh (each_one IsFreshEntry entry tt);
        };
    list = list_stays uses;
  }

  start : Stays (nothing_met env.scopes)
  start = record {
    dependencies = λ n. refl;
    covered = λ scope m entry n changes.
        needs_recompute scope (legal.outputs scope entry (contains_in (scopes_in body) scope m)
        (contains_in (own_at env.scopes scope).declarations entry n) changes);
    follow = λ name from is changes. let bad : ⊥ = cc in absurd bad;
    fresh = each_none IsFreshEntry;
  }

  -- what is told in the end is fresh
  all_fresh : (after : ReactiveBlock) (new : Environment) (log : List ScopeFate) → Merges body env after new log
      → AreFresh log
  all_fresh after new log merges =
      (merging_facts (IsIn env body) (touched_parts env) touched_monoid (of_parts env body) Stays body env after new log
      (states (last_uses_in env body)) merges (all_in_itself env body) start).0.fresh

-- where each scope is fresh that joined a head, each part is
pub parts_of_joins : (env : Environment) (body : ReactiveBlock) (log : List ScopeFate) → JoinsFresh env body log
    → PartsFresh env body log
parts_of_joins env body log joins once render legal part whole (itself) it = it
parts_of_joins env body log joins once render legal part whole (joined {head = head} into rest) it =
    parts_of_joins env body log joins once render legal head whole rest
    (joins once render legal part head into it)

module _ (before : ReactiveBlock) (old : Environment) (after : ReactiveBlock) (new : Environment)
    (log : List ScopeFate) (merges : Merges before old after new log) where
  pub joins_fresh : JoinsFresh old before log
  joins_fresh once render legal scope head gone =
      all_fresh old before render legal once after new log merges (record { scope = scope; fate = MergedInto head })
      (in_contains log (record { scope = scope; fate = MergedInto head }) gone)

  pub parts_fresh : PartsFresh old before log
  parts_fresh = parts_of_joins old before log joins_fresh
