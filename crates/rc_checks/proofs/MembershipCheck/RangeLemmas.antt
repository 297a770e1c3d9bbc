-- Places are visited by the first unknown one, which ends the visits; where none is unknown, by those whose range has
-- the id: a visit of a known place whose range lacks it leaves the state as it is.
use Rattle.std.proofs.Common.{◌≡◌, ◌∙◌, ◌∷◌, ◌++◌, Bool, true, false, ◌&&◌, not, List, [], Option, None, Some, Result}
use Rattle.std.proofs.Common.{Ok, Err, ℕ, ◌+◌, ◌<◌, length, get_or, take, filter, map, cond, if◌then◌else◌}
use Rattle.std.proofs.Common.{refl, sym, ap, subst, true≢false}
use Rattle.std.specs.List.{cons_option, find}
use Rattle.std.specs.Result.{is_err}
use Rattle.std.proofs.lemmas.List.{take_more}
use Rattle.std.proofs.lemmas.List.Elements.{filter_map-append}
use Rattle.std.proofs.lemmas.Option.{none-some}
use Rattle.rc_hir.specs.Model.{Environment, Fault, MutableRange, Place}
use Rattle.rc_names.specs.Numbers.{EvaluationOrder, ScopeId, is_among}
use Rattle.rc_ranges.specs.Ranges.{has_id, is_in_range, places_at}
use Rattle.rc_ranges.specs.declared.ranged_place.RangedPlace.{RangedPlace}
use Rattle.rc_tree.proofs.StepLemmas.{same_rest}
use Rattle.rc_tree.specs.Step.{Walk, bind, each}
use Rattle.rc_checks.proofs.MembershipCheck.WalkLemmas.{seen, told}
use Rattle.rc_checks.specs.declared.membership.visitor.Seen.{Seen}
use Rattle.rc_checks.specs.Membership.{if_outside, is_outside, range_of, scope_of}
use Rattle.rc_tree.specs.Visits.{PlacedOperand}
use Rattle.rc_checks.specs.inside.ContextVisits.{by_range, if_known, is_unknown, known_places, unknown_or, visited_at}
use Rattle.rc_checks.specs.inside.ContextVisits.{with_range, with_range_of}
use Rattle.rc_checks.specs.inside.MembershipSteps.{latest_outside, membership_steps}

-- values that are there are the same where the options are
pub some_same : {X : Type 0} {x y : X} → Some x ≡ Some y → x ≡ y
some_same e = cc

-- the known ones of places, and of one more
pub known_more : (env : Environment) (places : List Place) (i : ℕ) (default : Place) (known next : List RangedPlace)
    → i < length places → known ≡ known_places env (take i places)
    → next ≡ known ++ known_places env (get_or places i default ∷ []) → next ≡ known_places env (take (i + 1) places)
known_more env places i default known next within so_far is =
    let last = get_or places i default ∷ [] in
    is ∙ ap (λ known. known ++ known_places env last) so_far
    ∙ sym (filter_map-append (λ place. if_known (with_range env place)) (take i places) last)
    ∙ ap (known_places env) (sym (take_more places i default within))

module _ (env : Environment) (blocks : List ScopeId) (id : EvaluationOrder) where
  abbrev visit_place : Place → Walk Seen
  visit_place = (membership_steps env blocks).visit_place id

  -- a place that is visited there, and the scope that it is outside of in a range
  abbrev operand_at : Place → Seen → PlacedOperand
  operand_at place s = record { id = id; place = place; enclosing = s.around }

  abbrev found_in : Place → Seen → ScopeId → MutableRange → Option ScopeId
  found_in place s scope range = if is_outside env blocks (operand_at place s) scope range then Some scope else None

  -- what a visit makes of a state, by what it finds
  abbrev visit_found : Seen → Result (Option ScopeId) Fault → Result (Unit {0} × Seen) Fault
  visit_found s found = told env blocks s.around (bind found (λ scope. Ok (latest_outside id scope s.outside)))

  -- what the look-ups of a place say of its visits: a number is unknown, and they end there; the place has no scope,
  -- and they change nothing; or its scope has a range, outside of which they change nothing
  data Visited (place : Place) : Type 0 where
    ends : (fault : Fault) → with_range env place ≡ Err fault → ((s : Seen) → visit_place place s ≡ Err fault)
        → Visited place
    stays : with_range env place ≡ Ok None → ((s : Seen) → visit_place place s ≡ Ok (tt, s)) → Visited place
    ranged : (range : MutableRange) → with_range env place ≡ Ok (Some (record { place = place; range = range }))
        → ((s : Seen) → (next : Seen) × (visit_place place s ≡ Ok (tt, next)))
        → (is_in_range id range ≡ false → (s : Seen) → visit_place place s ≡ Ok (tt, s)) → Visited place

  module _ (place : Place) where
    -- a visit, and the place with its range, by the scope and by the range that are looked up
    abbrev by_scope : Seen → Result (Option ScopeId) Fault → Result (Unit {0} × Seen) Fault
    by_scope s scope = visit_found s (bind scope (if_outside env blocks (operand_at place s)))

    abbrev by_its_range : Seen → ScopeId → Result MutableRange Fault → Result (Unit {0} × Seen) Fault
    by_its_range s scope range = visit_found s (bind range (λ range. Ok (found_in place s scope range)))

    abbrev with_scope : Result (Option ScopeId) Fault → Result (Option RangedPlace) Fault
    with_scope scope = bind scope (with_range_of env place)

    abbrev with_its_range : Result MutableRange Fault → Result (Option RangedPlace) Fault
    with_its_range range = bind range (λ range. Ok (Some (record { place = place; range = range })))

    -- its visits, where it has that scope and those are the scope's range; where those are its scope; and so its visits
    visited_in : (scope : ScopeId) (range : Result MutableRange Fault)
        → scope_of env place.identifier ≡ Ok (Some scope) → range_of env scope ≡ range → Visited place
    visited_in scope (Err fault) is range_is =
        ends fault (ap with_scope is ∙ ap with_its_range range_is)
        (λ s. ap (by_scope s) is ∙ ap (by_its_range s scope) range_is)
    visited_in scope (Ok range) is range_is =
        ranged range (ap with_scope is ∙ ap with_its_range range_is)
        (λ s. (
          seen env blocks s.around (latest_outside id (found_in place s scope range) s.outside),
          ap (by_scope s) is ∙ ap (by_its_range s scope) range_is,
        ))
        (λ past s. ap (by_scope s) is ∙ ap (by_its_range s scope) range_is
        ∙ ap (λ (b : Bool). visit_found s (Ok
        (if b && (is_among blocks scope && not (is_among s.around scope)) then Some scope else None))) past)

    visited_of : (scope : Result (Option ScopeId) Fault) → scope_of env place.identifier ≡ scope → Visited place
    visited_of (Err fault) is = ends fault (ap with_scope is) (λ s. ap (by_scope s) is)
    visited_of (Ok None) is = stays (ap with_scope is) (λ s. ap (by_scope s) is)
    visited_of (Ok (Some scope)) is = visited_in scope (range_of env scope) is refl

    visited : Visited place
    visited = visited_of (scope_of env place.identifier) refl

  -- a place in front of others: its visit and theirs; the first unknown of them; and those whose range has the id
  abbrev first_then : List Place → Result (Unit {0} × Seen) Fault → Result (Unit {0} × Seen) Fault
  first_then places first = bind first (λ r. each visit_place places r.1)

  abbrev unknown_with : Place → List Place → Result (Option RangedPlace) Fault → Option Place
  unknown_with place places looked_up = cond (is_err looked_up) (Some place) (find (is_unknown env) places)

  abbrev at_id_with : List Place → Result (Option RangedPlace) Fault → List Place
  at_id_with places looked_up = places_at id (cons_option (if_known looked_up) (by_range env places).known)

  abbrev at_id_if : List Place → RangedPlace → Bool → List Place
  at_id_if places first b =
      let rest = filter (has_id id) (by_range env places).known in
      map (λ (r : RangedPlace). r.place) (cond b (first ∷ rest) rest)

  -- places of which none is unknown are visited by those whose range has the id: a visit of another leaves the state
  visited_by_range : (places : List Place) (s : Seen) → find (is_unknown env) places ≡ None
      → each visit_place places s ≡ each visit_place (places_at id (by_range env places).known) s
  visited_by_range [] s none = refl
  visited_by_range (place ∷ places) s none = elim (visited place) [
    | ends fault is visit ↦ absurd (none-some place (sym none ∙ ap (unknown_with place places) is))
    | stays is visit ↦
        ap (first_then places) (visit s)
        ∙ visited_by_range places s (sym (ap (unknown_with place places) is) ∙ none)
        ∙ ap (λ r. each visit_place (at_id_with places r) s) (sym is)
    | ranged range is goes_on past ↦
        by range past (is_in_range id range) refl
        (λ next. visited_by_range places next (sym (ap (unknown_with place places) is) ∙ none))
        ∙ ap (λ r. each visit_place (at_id_with places r) s) (sym is)
  ]
    where
      by : (range : MutableRange) → (is_in_range id range ≡ false → (s : Seen) → visit_place place s ≡ Ok (tt, s))
          → (b : Bool) → is_in_range id range ≡ b
          → ((next : Seen) → each visit_place places next
          ≡ each visit_place (places_at id (by_range env places).known) next)
          → each visit_place (place ∷ places) s
          ≡ each visit_place (at_id_if places (record { place = place; range = range }) (is_in_range id range)) s
      by range past true inside rest =
          same_rest (visit_place place s) _ _ (λ r. rest r.1)
          ∙ ap (λ b. each visit_place (at_id_if places (record { place = place; range = range }) b) s) (sym inside)
      by range past false outside rest =
          ap (first_then places) (past outside s) ∙ rest s
          ∙ ap (λ b. each visit_place (at_id_if places (record { place = place; range = range }) b) s) (sym outside)

  -- the visits end at the first unknown place, whatever those in front of it leave
  end_at : (places : List Place) (unknown : Place) (fault : Fault) → find (is_unknown env) places ≡ Some unknown
      → ((s : Seen) → visit_place unknown s ≡ Err fault) → (s : Seen) → each visit_place places s ≡ Err fault
  end_at [] unknown fault first visit s = absurd (none-some unknown first)
  end_at (place ∷ places) unknown fault first visit s = elim (visited place) [
    | ends own is visit_own ↦
        let same : place ≡ unknown = some_same (sym (ap (unknown_with place places) is) ∙ first) in
        ap (first_then places) (subst (λ p. visit_place p s ≡ Err fault) (sym same) (visit s))
    | stays is visit_own ↦
        ap (first_then places) (visit_own s)
        ∙ end_at places unknown fault (sym (ap (unknown_with place places) is) ∙ first) visit s
    | ranged range is goes_on past ↦
        ap (first_then places) (goes_on s).1
        ∙ end_at places unknown fault (sym (ap (unknown_with place places) is) ∙ first) visit (goes_on s).0
  ]

  -- the first unknown place is unknown
  first_unknown : (places : List Place) (unknown : Place) → find (is_unknown env) places ≡ Some unknown
      → is_unknown env unknown ≡ true
  first_unknown [] unknown first = absurd (none-some unknown first)
  first_unknown (place ∷ places) unknown first =
      by (is_unknown env place) refl first (first_unknown places unknown)
    where
      by : (b : Bool) → is_unknown env place ≡ b → cond b (Some place) (find (is_unknown env) places) ≡ Some unknown
          → (find (is_unknown env) places ≡ Some unknown → is_unknown env unknown ≡ true)
          → is_unknown env unknown ≡ true
      by true is first rest = subst (λ p. is_unknown env p ≡ true) (some_same first) is
      by false is first rest = rest first

  -- places are visited by the unknown one among them alone
  visited_by_unknown : (places : List Place) (unknown : Place) (s : Seen) → find (is_unknown env) places ≡ Some unknown
      → each visit_place places s ≡ each visit_place (unknown ∷ []) s
  visited_by_unknown places unknown s first = elim (visited unknown) [
    | ends fault is visit ↦ end_at places unknown fault first visit s ∙ sym (ap (first_then []) (visit s))
    | stays is visit ↦ absurd (true≢false (sym (first_unknown places unknown first) ∙ ap is_err is))
    | ranged range is goes_on past ↦ absurd (true≢false (sym (first_unknown places unknown first) ∙ ap is_err is))
  ]

  -- places are visited by those that are visited at the id
  pub visited_at_id : (places : List Place) (s : Seen)
      → each visit_place places s ≡ each visit_place (visited_at id (by_range env places)) s
  visited_at_id places s = by (find (is_unknown env) places) refl
    where
      by : (unknown : Option Place) → find (is_unknown env) places ≡ unknown
          → each visit_place places s
          ≡ each visit_place (unknown_or unknown (places_at id (by_range env places).known)) s
      by None none = visited_by_range places s none
      by (Some unknown) first = visited_by_unknown places unknown s first
