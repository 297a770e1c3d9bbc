-- The facts of a merged scope fit: its condition holds, and the names that are noted have their last uses below the
-- end of its range.
use Rattle.std.proofs.Common.{◌≡◌, ◌∙◌, Bool, true, false, List, [], ◌∷◌, Option, None, Some, All, Contains}
use Rattle.std.proofs.Common.{ap, get_or, if◌then◌else◌, length, map, not, refl, subst, sym, true≢false}
use Rattle.std.proofs.lemmas.Bool.{and_parts, ltb-true}
use Rattle.std.proofs.lemmas.List.{length-map}
use Rattle.std.proofs.lemmas.List.Elements.{All-map, Contains-get_or}
use Rattle.std.proofs.lemmas.Map.Views.{Contains-from_any}
use Rattle.std.specs.List.{list_all}
use Rattle.std.specs.Prelude.{◌&&◌, ◌<◌, ◌||◌, IfSome}
use Rattle.rc_hir.specs.Environment.{declaration_of}
use Rattle.rc_hir.specs.Model.{DeclarationEntry, DependencyPathEntry, Environment, ReactiveScopeDependency}
use Rattle.rc_names.proofs.NumbersLemmas.{same_id-eq}
use Rattle.rc_names.specs.Numbers.{DeclarationId, EvaluationOrder}
use Rattle.rc_tree.proofs.ListedOnce.{from_map, into_map}
use Rattle.rc_merge.proofs.Elements.{in_all, in_contains}
use Rattle.rc_merge.specs.Explained.{AreMergedFacts, AreSources, Joined, pairs_of, source_by}
use Rattle.rc_merge.specs.Joining.{Copies, always_invalidates, are_from, are_used_below, declared_copy, declared_name}
use Rattle.rc_merge.specs.Joining.{declares, depends_on_outputs, invalidates_with, is_empty, is_from, is_there}
use Rattle.rc_merge.specs.Joining.{is_used_below, joins, reassign_nothing, shares_inputs, source_of, takes_outputs}
use Rattle.rc_merge.specs.LastUses.{LastUses}
use Rattle.rc_merge.specs.declared.facts.MergeCondition.{MergeCondition}
use Rattle.rc_merge.specs.declared.facts.MergeCondition.TheVariants as conditions
use Rattle.rc_merge.specs.declared.facts.MergedFacts.{MergedFacts}
use Rattle.rc_merge.specs.declared.facts.NotedUse.{NotedUse}
use Rattle.rc_why.proofs.FactsFit.SamePairs.{same_declared, same_dependencies}
use Rattle.rc_why.specs.Fits.{HaveSources, Holds, IsUsedBelow}
use Rattle.rc_why.specs.Pairs.{IsWhole}

-- a last use that passes the test is below the id
below_end : (end : EvaluationOrder) (last : Option EvaluationOrder) → is_used_below end last ≡ true
    → IfSome last (λ last. last.0 < end.0)
below_end end None passes = tt
below_end end (Some last) passes = ltb-true last.0 end.0 passes

no_steps : (path : List DependencyPathEntry) → is_empty path ≡ true → path ≡ []
no_steps [] empty = refl
no_steps (step ∷ path) empty = absurd (true≢false (sym empty))

-- the third of three tests passes where one does and the others don't
third : (a b c : Bool) → (a || (b || c)) ≡ true → a ≡ false → b ≡ false → c ≡ true
third true b c one apart other = absurd (true≢false apart)
third false true c one apart other = absurd (true≢false other)
third false false c one apart other = one

module _ (env : Environment) where
  -- the names that the entries declare
  abbrev names_of : List DeclarationEntry → List DeclarationId
  names_of entries = map (declared_name env) entries

  is_declared : (entries : List DeclarationEntry) (name : DeclarationId) → declares env entries name ≡ true
      → Contains (names_of entries) name
  is_declared entries name = Contains-from_any same_id-eq name (names_of entries)

  -- a source is a declared name
  copied : (entries : List DeclarationEntry) (from : Option DeclarationId) (source : DeclarationId)
      → declared_copy env entries from ≡ Some source → Contains (names_of entries) source
  copied entries None source found = absurd (let bad : ⊥ = cc in bad)
  copied entries (Some from) source found = split (declares env entries from) refl found
    where
      split : (b : Bool) → declares env entries from ≡ b
          → ◌≡◌ {A = Option DeclarationId} (if b then Some from else None) (Some source)
          → Contains (names_of entries) source
      split true is found = let same : from ≡ source = cc in
          subst (Contains (names_of entries)) same (is_declared entries from is)
      split false is found = absurd (let bad : ⊥ = cc in bad)

  source_declared : (copies : Copies) (entries : List DeclarationEntry) (name source : DeclarationId)
      → source_of env copies entries name ≡ Some source → Contains (names_of entries) source
  source_declared copies entries name source found = split (declares env entries name) refl found
    where
      split : (b : Bool) → declares env entries name ≡ b
          → (if b then Some name else declared_copy env entries (copies name)) ≡ Some source
          → Contains (names_of entries) source
      split true is found = let same : name ≡ source = cc in
          subst (Contains (names_of entries)) same (is_declared entries name is)
      split false is found = copied entries (copies name) source found

  module _ (copies : Copies) (entries : List DeclarationEntry) (dependencies : List ReactiveScopeDependency)
      (from : are_from env copies entries dependencies ≡ true) where
    each_from : list_all (is_from env copies entries) dependencies ≡ true
    each_from = (and_parts (not (is_empty dependencies)) (list_all (is_from env copies entries) dependencies) from).1

    some_next : ¬ pairs_of env dependencies ≡ []
    some_next = by dependencies
        (and_parts (not (is_empty dependencies)) (list_all (is_from env copies entries) dependencies) from).0
      where
        by : (some : List ReactiveScopeDependency) → not (is_empty some) ≡ true → ¬ pairs_of env some ≡ []
        by [] filled none = true≢false (sym filled)
        by (dependency ∷ some) filled none = let bad : ⊥ = cc in bad

    -- each dependency is on a whole value
    all_whole : All IsWhole (pairs_of env dependencies)
    all_whole = All-map IsWhole _ dependencies (λ place other below.
        let dependency = get_or dependencies place other in
        let passes = in_all (is_from env copies entries) dependencies each_from dependency
        (in_contains dependencies dependency (Contains-get_or dependencies place other below)) in
        no_steps dependency.path (and_parts (is_empty dependency.path) (always_invalidates env dependency.identifier
        && is_there (source_of env copies entries (declaration_of env dependency.identifier))) passes).0)

    -- the sources are as many, and each is a declared name
    pub have_sources : (sources : List DeclarationId)
        → map (λ source. Some source) sources ≡ map (source_by env copies entries) dependencies
        → HaveSources (pairs_of env dependencies) (names_of entries) sources
    have_sources sources are = record {
      some = some_next;
      as_long = sym (length-map sources (λ source. Some source)) ∙ ap length are
          ∙ length-map dependencies (source_by env copies entries) ∙ sym (length-map dependencies _);
      whole = all_whole;
      among = λ place other below.
          let source = get_or sources place other in
          let there = subst (λ found. Contains found (Some source)) are
          (into_map (λ source. Some source) sources source (Contains-get_or sources place other below)) in
          let it = from_map (source_by env copies entries) dependencies (Some source) there in
          source_declared copies entries (declaration_of env it.0.identifier) source it.2;
    }

  module _ (uses : LastUses) (is : Joined) (facts : MergedFacts) (told : AreMergedFacts env uses is facts)
      (joined : joins env uses is.copies is.head.own is.names is.next.own ≡ true) where
    -- a condition holds, and the names are used below the end
    rest : (invalidates_with env is.copies is.head.own is.next.own ≡ true)
        × (are_used_below uses is.next.own.range.end is.names ≡ true)
    rest = and_parts (invalidates_with env is.copies is.head.own is.next.own)
        (are_used_below uses is.next.own.range.end is.names)
        (and_parts (reassign_nothing env is.head.own is.next.own)
        (invalidates_with env is.copies is.head.own is.next.own
        && are_used_below uses is.next.own.range.end is.names) joined).1

    -- the noted names have their last uses below the end
    pub uses_fit : All (IsUsedBelow facts.end) facts.uses
    uses_fit = λ place other below.
        let noted = get_or facts.uses place other in
        let listed = into_map (λ (entry : NotedUse). entry.declaration) facts.uses noted
        (Contains-get_or facts.uses place other below) in
        let there = (told.names.same noted.declaration).0 listed in
        let passes = in_all (λ name. is_used_below is.next.own.range.end (uses name)) is.names rest.1 noted.declaration
        (in_contains is.names noted.declaration there) in
        subst (λ end. IsUsedBelow end noted) (sym told.ends)
        (subst (λ last. IfSome last (λ last. last.0 < is.next.own.range.end.0)) (sym (told.last place other below))
        (below_end is.next.own.range.end (uses noted.declaration) passes))

    -- the facts as the conditions compare them
    abbrev HoldsOfFacts : MergeCondition → List DeclarationId → Type 0
    HoldsOfFacts condition sources = Holds condition (pairs_of env is.head.own.dependencies)
        (names_of is.head.own.declarations) (pairs_of env is.next.own.dependencies) sources

    -- the condition by which of the first two tests passes
    holds_by : (shares takes : Bool) → shares_inputs env is.head.own is.next.own ≡ shares
        → takes_outputs env is.head.own is.next.own ≡ takes
        → facts.condition
        ≡ (if shares then conditions.Same else (if takes then conditions.Outputs else conditions.Sources))
        → HoldsOfFacts facts.condition facts.sources
    holds_by true takes same other condition = subst (λ c. HoldsOfFacts c facts.sources) (sym condition)
        (same_dependencies env is.head.own.dependencies is.next.own.dependencies same)
    holds_by false true apart same condition = subst (λ c. HoldsOfFacts c facts.sources) (sym condition)
        (same_declared env is.head.own.declarations is.next.own.dependencies same)
    holds_by false false apart other condition =
        let from = third (shares_inputs env is.head.own is.next.own) (takes_outputs env is.head.own is.next.own)
        (depends_on_outputs env is.copies is.head.own is.next.own) rest.0 apart other in
        subst (λ c. HoldsOfFacts c facts.sources) (sym condition)
        (have_sources is.copies is.head.own.declarations is.next.own.dependencies from facts.sources
        (subst (λ c. AreSources env c is facts.sources) condition told.from))

    -- the condition that is told holds
    pub condition_holds : Holds facts.condition facts.head facts.outputs facts.next facts.sources
    condition_holds = rw (told.of_head, told.declared, told.of_next)
        (holds_by (shares_inputs env is.head.own is.next.own) (takes_outputs env is.head.own is.next.own) refl refl
        told.holds)
