-- Every record has a walk, and so a set of memoized names: a first visit of a node and the taking of a scope each leave
-- one less of them.
use Rattle.std.proofs.Common.{◌≡◌, ◌∙◌, ◌+◌, ◌<◌, ◌≤◌, ℕ, zero, suc, Bool, true, false, List, [], ◌∷◌, Option}
use Rattle.std.proofs.Common.{Some, None, ap, arith, refl, sym, if◌then◌else◌}
use Rattle.std.specs.Prelude.{◌||◌, IsSome, is_some}
use Rattle.std.specs.List.{filter}
use Rattle.std.specs.Map.{keys_of, lookup}
use Rattle.std.proofs.lemmas.Map.Views.{Contains-from_any, Contains-keys_from_lookup, list_any-from_Contains}
use Rattle.rc_names.specs.Numbers.{DeclarationId, ScopeId, is_among, same_id}
use Rattle.rc_names.specs.declared.numbers.Id.{Id}
use Rattle.rc_names.proofs.NumbersLemmas.{ids_equivalence, same_id-eq}
use Rattle.rc_memo.specs.declared.record.MemoNode.{MemoNode}
use Rattle.rc_memo.specs.declared.record.MemoRecord.{MemoRecord}
use Rattle.rc_tree.proofs.ListedOnce.{from_filter, into_filter}
use Rattle.rc_escape.specs.MemoBounds.{IsInGreatestSet}
use Rattle.rc_escape.specs.MemoBounds as bounds
use Rattle.rc_escape.specs.MemoSet.{IsMemoSet, IsWalked}
use Rattle.rc_escape.specs.MemoWalk.{Progress, dependencies_of, memoizes, node_of, nothing_met, with_memoized}
use Rattle.rc_escape.specs.MemoWalk.{with_seen, with_taken}
use Rattle.rc_escape.specs.MemoWalk.{VisitsName, absent, again, first_time, VisitsNames, no_names, next_name}
use Rattle.rc_escape.specs.MemoWalk.{DecidesNode, passes, memoizes_it}
use Rattle.rc_escape.specs.MemoWalk.{TakesScopes, no_scopes, without_record, taken_before, takes_it}
use Rattle.rc_escape.proofs.MemoizedIsInGreatest.{memoized_is_in_greatest}

-- how many entries aren't met
abbrev one_unless : Bool → ℕ
one_unless met = if met then 0 else 1

abbrev unmet : {K X : Type 0} → (Id K → Bool) → List (Id K × X) → ℕ
unmet is_met [] = 0
unmet is_met (entry ∷ entries) = one_unless (is_met entry.0) + unmet is_met entries

no_more_here : (same met : Bool) → one_unless (same || met) ≤ one_unless met
no_more_here true true = omega arith
no_more_here true false = omega arith
no_more_here false met = omega arith

-- there are fewer once one more key is met
module _ {K : Type 0} (before : Id K → Bool) (key : Id K) where
  abbrev after : Id K → Bool
  after other = same_id other key || before other

  no_more : {X : Type 0} (entries : List (Id K × X)) → unmet after entries ≤ unmet before entries
  no_more [] = omega arith
  no_more (entry ∷ entries) =
      let rest = no_more entries in
      let here = no_more_here (same_id entry.0 key) (before entry.0) in
      omega (arith, here, rest)

  fewer : {X : Type 0} (entries : List (Id K × X)) (value : X) → lookup (same_id key) entries ≡ Some value
      → before key ≡ false → unmet after entries < unmet before entries
  fewer [] value found new = cc
  fewer (entry ∷ entries) value found new = by (fewer entries value) (same_id key entry.0) refl found
    where
      by : (lookup (same_id key) entries ≡ Some value → before key ≡ false
          → unmet after entries < unmet before entries) → (same : Bool) → same_id key entry.0 ≡ same
          → (if same then Some entry.1 else lookup (same_id key) entries) ≡ Some value
          → unmet after (entry ∷ entries) < unmet before (entry ∷ entries)
      by later true same found =
          let met = ap (λ b. one_unless (b || before entry.0)) (ids_equivalence.symm entry.0 key ∙ same) in
          let was = ap one_unless (ap before (sym (same_id-eq key entry.0 same)) ∙ new) in
          let rest = no_more entries in
          omega (arith, met, was, rest)
      by later false other found =
          let rest = later found new in
          let here = no_more_here (same_id entry.0 key) (before entry.0) in
          omega (arith, here, rest)

module _ (r : MemoRecord) where
  -- how many nodes aren't visited and how many scopes aren't taken
  abbrev left : Progress → ℕ
  left met = unmet met.seen r.nodes + unmet met.taken r.scopes

  -- the walk goes on from what is met to an end, where no more are left
  abbrev Visits : List DeclarationId → Bool → Progress → Type 0
  Visits names forced met =
      (end : Progress) × (answer : Bool) × VisitsNames r names forced met end answer × (left end ≤ left met)

  abbrev VisitsOne : DeclarationId → Bool → Progress → Type 0
  VisitsOne name forced met =
      (end : Progress) × (answer : Bool) × VisitsName r name forced met end answer × (left end ≤ left met)

  abbrev Takes : List ScopeId → Progress → Type 0
  Takes scopes met = (end : Progress) × TakesScopes r scopes met end × (left end ≤ left met)

  -- so it does wherever less than that is left
  abbrev GoesOnBelow : ℕ → Type 0
  GoesOnBelow n = (names : List DeclarationId) (forced : Bool) (met : Progress) → left met < n → Visits names forced met

  -- and where as much is left
  module _ (n : ℕ) (inside : GoesOnBelow n) where
    takes : (scopes : List ScopeId) (met : Progress) → left met ≤ n → Takes scopes met
    takes [] met few = (met, no_scopes, omega arith)
    takes (scope ∷ scopes) met few = by (takes scopes) (dependencies_of r scope) refl (met.taken scope) refl
      where
        by : ((later : Progress) → left later ≤ n → Takes scopes later) → (found : Option (List DeclarationId))
            → dependencies_of r scope ≡ found → (taken : Bool) → met.taken scope ≡ taken → Takes (scope ∷ scopes) met
        by others None none taken is = let rest = others met few in (rest.0, without_record none rest.1, rest.2)
        by others (Some names) at true is =
            let rest = others met few in (rest.0, taken_before at is rest.1, rest.2)
        by others (Some names) at false is =
            let less = fewer met.taken scope r.scopes names at is in
            let first = inside names true (with_taken met scope) (omega (arith, less, few)) in
            let rest = others first.0 (omega (arith, less, few, first.3)) in
            (rest.0, takes_it at is first.2 rest.1, omega (arith, less, first.3, rest.2))

    decides : (name : DeclarationId) (node : MemoNode) (answer : Bool) (met : Progress) → left met ≤ n
        → (end : Progress) × DecidesNode r name node answer met end × (left end ≤ left met)
    decides name node false met few = (met, passes, omega arith)
    decides name node true met few =
        let all = takes node.scopes (with_memoized met name) few in (all.0, memoizes_it all.1, all.2)

    visits_one : (name : DeclarationId) (forced : Bool) (met : Progress) → left met ≤ n → VisitsOne name forced met
    visits_one name forced met few = by (node_of r name) refl (met.seen name) refl
      where
        by : (found : Option MemoNode) → node_of r name ≡ found → (seen : Bool) → met.seen name ≡ seen
            → VisitsOne name forced met
        by None none seen is = (met, false, absent none, omega arith)
        by (Some node) at true is = (met, met.memoized name, again at is refl, omega arith)
        by (Some node) at false is =
            let less = fewer met.seen name r.nodes node at is in
            let needs = inside node.dependencies false (with_seen met name) (omega (arith, less, few)) in
            let answer = memoizes node.level forced needs.1 in
            let done = decides name node answer needs.0 (omega (arith, less, few, needs.3)) in
            (done.0, answer, first_time at is needs.2 refl done.1, omega (arith, less, needs.3, done.2))

    visits : (names : List DeclarationId) (forced : Bool) (met : Progress) → left met ≤ n → Visits names forced met
    visits [] forced met few = (met, false, no_names, omega arith)
    visits (name ∷ names) forced met few =
        let first = visits_one name forced met few in
        let rest = visits names forced first.0 (omega (arith, few, first.3)) in
        (rest.0, first.1 || rest.1, next_name first.2 rest.2 refl, omega (arith, first.3, rest.3))

  goes_on : (n : ℕ) → GoesOnBelow n
  goes_on zero names forced met few = absurd (omega (arith, few))
  goes_on (suc n) names forced met few = visits n (goes_on n) names forced met (omega (arith, few))

  walk_ends : (end : Progress) × IsWalked r end
  walk_ends =
      let walk = visits (left nothing_met) (goes_on (left nothing_met)) r.escaping false nothing_met (omega arith) in
      (walk.0, record { answer = walk.1; visits = walk.2 })

  -- what is memoized has a node
  is_node : (name : DeclarationId) → IsInGreatestSet r name → IsSome (node_of r name)
  is_node name (bounds.memoized reached at level) = ap is_some at
  is_node name (bounds.conditional_forced reached at level forced) = ap is_some at
  is_node name (bounds.conditional_needed reached at level among needed) = ap is_some at
  is_node name (bounds.unmemoized_forced reached at level forced) = ap is_some at

  pub every_record_has_set : (set : List DeclarationId) × IsMemoSet r set
  every_record_has_set =
      (filter end.memoized names, record { end = end; walked = walk_ends.1; names = λ name. both name _ _ refl refl })
    where
      end : Progress
      end = walk_ends.0

      names : List DeclarationId
      names = keys_of r.nodes

      both : (name : DeclarationId) (among memoized : Bool) → is_among (filter end.memoized names) name ≡ among
          → end.memoized name ≡ memoized → is_among (filter end.memoized names) name ≡ end.memoized name
      both name true memoized there is =
          there ∙ sym (from_filter end.memoized names name (Contains-from_any same_id-eq name _ there)).1
      both name false false there is = there ∙ sym is
      both name false true there is =
          let key = Contains-keys_from_lookup same_id-eq name r.nodes
          (is_node name (memoized_is_in_greatest walk_ends.1.visits name is)) in
          let bad = list_any-from_Contains ids_equivalence name _ (into_filter end.memoized names name key is) in
          absurd (let no : ⊥ = cc in no)
