-- The fates that are listed by what the passes decided are those of the rules.
use Rattle.std.proofs.Common.{◌≡◌, ◌∙◌, ◌↔◌, ◌⊎◌, inl, inr, Bool, IsTrue, List, [], ◌∷◌, All}
use Rattle.std.proofs.Common.{Contains, get_or, arith, not, true≢false, refl, sym, ap, subst}
use Rattle.std.proofs.lemmas.List.Elements.{Contains-get_or}
use Rattle.rc_names.specs.Numbers.{DeclarationId, ScopeId, times}
use Rattle.rc_tree.proofs.DistinctLemmas.{at_least_once, at_most_once, from_times}
use Rattle.rc_tree.proofs.FateLemmas.{fate_told}
use Rattle.rc_tree.proofs.ListedOnce.{from_filter, into_map}
use Rattle.rc_tree.specs.Decided.{IsFateBy}
use Rattle.rc_tree.specs.inside.DecisionLogs.{fate_by}
use Rattle.rc_tree.specs.Model.{ReactiveBlock}
use Rattle.rc_tree.specs.ScopesIn.{HasScopesOnce, scopes_in}
use Rattle.rc_tree.specs.declared.fate.Fate.{Fate}
use Rattle.rc_tree.specs.declared.fate.Fate.TheVariants.{Kept, NotEscaping}
use Rattle.rc_tree.specs.declared.fate.ScopeFate.{ScopeFate}
use Rattle.rc_escape.specs.NotEscaping.{IsNeededOutput}
use Rattle.rc_escape.specs.Outputs.{is_dissolved}
use Rattle.rc_escape.specs.WholeRecord.{HasWholeRecord}
use Rattle.rc_memo.specs.Record.{IsRecordOf}
use Rattle.rc_pipe.proofs.EventsStay.{events_stay, same_needed, same_record}
use Rattle.rc_pipe.proofs.PassesLemmas.{decided, labels_keep_scopes, not_escaping_first}
use Rattle.rc_pipe.specs.Explained.{AreTold}
use Rattle.rc_pipe.specs.Fates.{AreKeptExactly, listed_scopes}
use Rattle.rc_pipe.specs.Passes.{IsPruned, PassState, fate_rules}
use Rattle.rc_pipe.specs.declared.passes.Decisions.{Decisions}
use Rattle.rc_pipe.specs.inside.PrunedParts.{IsPrunedWith}

-- a list of fates is empty where none has a scope
none_listed : (fates : List ScopeFate) → ((scope : ScopeId) → Contains (listed_scopes fates) scope → ⊥) → fates ≡ []
none_listed [] none = refl
none_listed (entry ∷ rest) none = absurd (none entry.scope (0, omega arith, refl))

-- the scope has a scope block at the end exactly if its fate is `Kept`
abbrev IsLeftExactly : ScopeId → Fate → ReactiveBlock → Type 0
IsLeftExactly scope fate after = ((fate ≡ Kept) × (times scope (scopes_in after) ≡ 1))
    ⊎ (¬ (fate ≡ Kept) × (times scope (scopes_in after) ≡ 0))

module _ {explain : Bool} {spelled pruned : PassState} {decisions : Decisions}
    (parts : IsPrunedWith explain spelled pruned decisions) (once : HasScopesOnce spelled.func.body) where
  abbrev passes : IsPruned spelled pruned
  passes = parts.passes

  -- a scope of the spelled tree has its fate by the first rule that gives it one, and a block at the end exactly where
  -- it is kept
  by_rule : (scope : ScopeId) → Contains (scopes_in spelled.func.body) scope
      → IsFateBy (fate_rules passes) scope (fate_by decisions.log scope)
      × IsLeftExactly scope (fate_by decisions.log scope) pruned.func.body
  by_rule scope there =
      let least = at_least_once scope (scopes_in spelled.func.body) there in
      let most = at_most_once (scopes_in spelled.func.body) once scope in
      fate_told scope (fate_rules passes) spelled.func.body pruned.func.body decisions.log (decided parts once) (omega (arith, least, most))

  module _ (fates : List ScopeFate) (listed : (scope : ScopeId)
      → Contains (listed_scopes fates) scope ↔ Contains decisions.spelled scope)
      (told : All (λ entry. entry.fate ≡ fate_by decisions.log entry.scope) fates) where
    among_spelled : (scope : ScopeId)
        → Contains (listed_scopes fates) scope ↔ Contains (scopes_in spelled.func.body) scope
    among_spelled =
        subst (λ scopes. (scope : ScopeId) → Contains (listed_scopes fates) scope ↔ Contains scopes scope) parts.listed
        listed

    -- an entry of the list is of a scope of the spelled tree
    abbrev IsSpelled : ScopeFate → Type 0
    IsSpelled entry = Contains (scopes_in spelled.func.body) entry.scope

    of_spelled : All IsSpelled fates
    of_spelled = λ place other below.
        let entry = get_or fates place other in
        (among_spelled entry.scope).0
        (into_map (λ (it : ScopeFate). it.scope) fates entry (Contains-get_or fates place other below))

    -- the listed scopes have their fates by the rules
    pub fates_told : All (λ entry. IsFateBy (fate_rules passes) entry.scope entry.fate) fates
    fates_told = λ place other below.
        let entry = get_or fates place other in
        subst (IsFateBy (fate_rules passes) entry.scope) (sym (told place other below))
        (by_rule entry.scope (of_spelled place other below)).0

    -- exactly the scopes that still have a scope block are kept
    pub kept_exactly : AreKeptExactly pruned.func.body fates
    kept_exactly = λ place other below.
        let entry = get_or fates place other in
        subst (λ fate. (fate ≡ Kept) ↔ Contains (scopes_in pruned.func.body) entry.scope) (sym (told place other below))
        (both entry.scope (fate_by decisions.log entry.scope) (by_rule entry.scope (of_spelled place other below)).1)
      where
        both : (scope : ScopeId) (fate : Fate) → IsLeftExactly scope fate pruned.func.body
            → (fate ≡ Kept) ↔ Contains (scopes_in pruned.func.body) scope
        both scope fate (inl is) =
            (λ kept. from_times scope (scopes_in pruned.func.body) (omega (arith, is.1)), λ there. is.0)
        both scope fate (inr is) = (
          λ kept. absurd (is.0 kept),
          λ there. absurd (omega (arith, is.1, at_least_once scope (scopes_in pruned.func.body) there)),
        )

    -- where no scope is spelled, no fate is listed
    nowhere : decisions.spelled ≡ [] → (scope : ScopeId) → Contains (listed_scopes fates) scope → ⊥
    nowhere none scope there =
        let among = subst (λ scopes. Contains scopes scope) none ((listed scope).0 there) in
        omega (arith, among.1)

    -- where a fate is listed, what was told is what was read
    pub told_if_listed : IsTrue explain → (fates ≡ []) ⊎ AreTold passes decisions.told
    told_if_listed asked = by (parts.explained asked)
      where
        by : (decisions.spelled ≡ []) ⊎ AreTold passes decisions.told → (fates ≡ []) ⊎ AreTold passes decisions.told
        by (inl none) = inl (none_listed fates (nowhere none))
        by (inr told) = inr told

    pub among : (scope : ScopeId) → Contains (listed_scopes fates) scope ↔ Contains (scopes_in spelled.func.body) scope
    among = among_spelled

    -- no scope that doesn't escape has an output that must be memoized
    pub none_needed : All (λ entry. entry.fate ≡ NotEscaping → (name : DeclarationId)
        → IsNeededOutput spelled.env spelled.func entry.scope name → ⊥) fates
    none_needed = λ place other below is name needed.
        let entry = get_or fates place other in
        let there = of_spelled place other below in
        let rule = not_escaping_first passes entry.scope (subst (IsFateBy (fate_rules passes) entry.scope) is
        (fates_told place other below)) in
        let same = same_needed spelled.env spelled.func passes.labeled.func (sym (ap (λ f. f.params) passes.labels.header))
        (events_stay spelled.env spelled.func.body passes.labeled.func.body passes.labels.labels) entry.scope name needed in
        let left = parts.needed entry.scope name
        (subst (λ scopes. Contains scopes entry.scope) (sym (labels_keep_scopes passes.labels)) there)
        (subst (λ env. IsNeededOutput env passes.labeled.func entry.scope name) (sym passes.labels.kept_environment) same) in
        let stays = from_filter
        (λ id. not (is_dissolved passes.labeled.env passes.escapes.scopes.without.set id))
        (scopes_in passes.labeled.func.body) entry.scope
        (subst (λ scopes. Contains scopes entry.scope) passes.escapes.scopes.without.left left) in
        true≢false (sym stays.1 ∙ ap not rule)

  -- labels change no record, so that of the spelled function lacks nothing
  pub whole_record : HasWholeRecord spelled.env spelled.func
  whole_record =
      let memoized = passes.escapes.scopes.without.memoized in
      let same =
      subst (λ env. IsRecordOf passes.labeled.func env memoized.rec) passes.labels.kept_environment memoized.recorded in
      record {
        rec = memoized.rec;
        recorded = same_record spelled.env passes.labeled.func spelled.func (ap (λ f. f.params) passes.labels.header)
            (sym (events_stay spelled.env spelled.func.body passes.labeled.func.body passes.labels.labels)) memoized.rec
            same;
        whole = memoized.whole;
      }
