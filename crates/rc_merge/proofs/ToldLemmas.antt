-- The facts of a scope that joins a head are as they are computed.
use Rattle.std.proofs.Common.{◌≡◌, ◌∙◌, ◌<◌, ◌+◌, ℕ, suc, Bool, true, false, All, List, [], ◌∷◌, ◌++◌, Option, None}
use Rattle.std.proofs.Common.{Some, ap, arith, get_or, if◌then◌else◌, length, map, refl, subst, sym, take, unwrap_or}
use Rattle.std.proofs.Math.Seq.{take-suc}
use Rattle.std.proofs.lemmas.Bool.{and_parts}
use Rattle.std.proofs.lemmas.List.Elements.{All-cons, All-nil, filter_map-append}
use Rattle.std.specs.List.{cons_option, filter_map, list_all}
use Rattle.std.specs.Prelude.{◌||◌, not}
use Rattle.rc_hir.specs.Model.{DeclarationEntry, Environment, ReactiveScopeDependency}
use Rattle.rc_merge.proofs.ByNumberLemmas.{in_order_by_number}
use Rattle.rc_merge.specs.Explained.{AreMergedFacts, AreSources, DoesJoin, Joined, condition_of, source_by}
use Rattle.rc_merge.specs.Joining.{Copies, always_invalidates, are_used_below, depends_on_outputs, invalidates_with}
use Rattle.rc_merge.specs.Joining.{is_empty, is_from, is_there, joins, reassign_nothing, shares_inputs}
use Rattle.rc_merge.specs.Joining.{takes_outputs}
use Rattle.rc_merge.specs.LastUses.{LastUses}
use Rattle.rc_merge.specs.declared.facts.MergeCondition.TheVariants.{Same, Outputs, Sources}
use Rattle.rc_merge.specs.declared.facts.NotedUse.{NotedUse}
use Rattle.rc_merge.specs.inside.Told.{by_number, condition_if, facts_of, noted_use, sources_by}
use Rattle.rc_names.specs.Numbers.{DeclarationId}
use Rattle.rc_order.specs.Order.{AreInOrder}

-- the first condition that holds

pub condition_there : (shares takes depends : Bool)
    → is_there (condition_if shares takes depends) ≡ (shares || (takes || depends))
condition_there true takes depends = refl
condition_there false true depends = refl
condition_there false false true = refl
condition_there false false false = refl

pub condition_or_last : (shares takes depends : Bool) → unwrap_or (condition_if shares takes depends) Sources
    ≡ (if shares then Same else (if takes then Outputs else Sources))
condition_or_last true takes depends = refl
condition_or_last false true depends = refl
condition_or_last false false true = refl
condition_or_last false false false = refl

-- noted names

names_of_uses : (uses : LastUses) (names : List DeclarationId)
    → map (λ (entry : NotedUse). entry.declaration) (map (noted_use uses) names) ≡ names
names_of_uses uses [] = refl
names_of_uses uses (name ∷ names) = ap (λ rest. name ∷ rest) (names_of_uses uses names)

uses_noted : (uses : LastUses) (names : List DeclarationId)
    → All (λ (entry : NotedUse). entry.last ≡ uses entry.declaration) (map (noted_use uses) names)
uses_noted uses [] = All-nil (λ (entry : NotedUse). entry.last ≡ uses entry.declaration)
uses_noted uses (name ∷ names) = All-cons (λ (entry : NotedUse). entry.last ≡ uses entry.declaration)
    (noted_use uses name) (map (noted_use uses) names) refl (uses_noted uses names)

-- one source more
pub one_source : {X Y : Type 0} (h : X → Option Y) (xs : List X) (sources more : List Y) (i : ℕ) (x : X)
    → i < length xs → x ≡ get_or xs i x → sources ≡ filter_map h (take i xs)
    → more ≡ sources ++ cons_option (h x) [] → more ≡ filter_map h (take (i + 1) xs)
one_source h xs sources more i x within is before here =
    let next : take (i + 1) xs ≡ take i xs ++ get_or xs i x ∷ [] =
    ap (λ n. take n xs) (let one : i + 1 ≡ suc i = omega arith in one) ∙ take-suc xs i x within in
    here ∙ (λ j. before j ++ cons_option (h (is j)) [])
    ∙ sym (ap (filter_map h) next ∙ filter_map-append h (take i xs) (get_or xs i x ∷ []))

module _ (env : Environment) where
  -- where each dependency is on a declared value, there are as many sources
  all_sources : (copies : Copies) (entries : List DeclarationEntry) (dependencies : List ReactiveScopeDependency)
      → list_all (is_from env copies entries) dependencies ≡ true
      → map (λ source. Some source) (filter_map (source_by env copies entries) dependencies)
      ≡ map (source_by env copies entries) dependencies
  all_sources copies entries [] all = refl
  all_sources copies entries (dependency ∷ dependencies) all =
      let parts = and_parts (is_from env copies entries dependency) (list_all (is_from env copies entries) dependencies)
      all in
      by (source_by env copies entries dependency) (there parts.0)
      (all_sources copies entries dependencies parts.1)
    where
      there : is_from env copies entries dependency ≡ true
          → is_there (source_by env copies entries dependency) ≡ true
      there from = (and_parts (always_invalidates env dependency.identifier)
          (is_there (source_by env copies entries dependency))
          (and_parts (is_empty dependency.path) _ from).1).1

      by : (source : Option DeclarationId) → is_there source ≡ true
          → map (λ source. Some source) (filter_map (source_by env copies entries) dependencies)
          ≡ map (source_by env copies entries) dependencies
          → map (λ source. Some source) (cons_option source (filter_map (source_by env copies entries) dependencies))
          ≡ source ∷ map (source_by env copies entries) dependencies
      by None is rest = let bad : ⊥ = cc in absurd bad
      by (Some source) is rest = ap (λ sources. Some source ∷ sources) rest

  module _ (uses : LastUses) where
    -- of the scopes that join, those under the third condition depend on outputs alone
    depends : (is : Joined) → DoesJoin env uses is → shares_inputs env is.head.own is.next.own ≡ false
        → takes_outputs env is.head.own is.next.own ≡ false
        → list_all (is_from env is.copies is.head.own.declarations) is.next.own.dependencies ≡ true
    depends is joins apart other =
        let invalidates = (and_parts (invalidates_with env is.copies is.head.own is.next.own)
        (are_used_below uses is.next.own.range.end is.names)
        (and_parts (reassign_nothing env is.head.own is.next.own) _ joins).1).0 in
        (and_parts (not (is_empty is.next.own.dependencies)) _
        (by (shares_inputs env is.head.own is.next.own) (takes_outputs env is.head.own is.next.own) apart other
        invalidates)).1
      where
        by : (shares takes : Bool) → shares ≡ false → takes ≡ false
            → (shares || (takes || depends_on_outputs env is.copies is.head.own is.next.own)) ≡ true
            → depends_on_outputs env is.copies is.head.own is.next.own ≡ true
        by true takes apart other e = let bad : ⊥ = cc in absurd bad
        by false true apart other e = let bad : ⊥ = cc in absurd bad
        by false false apart other e = e

    sources_are : (is : Joined) → DoesJoin env uses is
        → AreSources env (condition_of env is.head.own is.next.own) is
        (sources_by env (condition_of env is.head.own is.next.own) is)
    sources_are is joins =
        by (shares_inputs env is.head.own is.next.own) (takes_outputs env is.head.own is.next.own) refl refl
      where
        by : (shares takes : Bool) → shares_inputs env is.head.own is.next.own ≡ shares
            → takes_outputs env is.head.own is.next.own ≡ takes
            → AreSources env (if shares then Same else (if takes then Outputs else Sources)) is
            (sources_by env (if shares then Same else (if takes then Outputs else Sources)) is)
        by true takes apart other = refl
        by false true apart other = refl
        by false false apart other =
            all_sources is.copies is.head.own.declarations is.next.own.dependencies (depends is joins apart other)

    pub facts_are : (is : Joined) → DoesJoin env uses is → AreMergedFacts env uses is (facts_of env uses is)
    facts_are is joins = record {
      number = refl;
      into = refl;
      holds = refl;
      of_head = refl;
      declared = refl;
      of_next = refl;
      from = sources_are is joins;
      names = subst (AreInOrder is.names) (sym (names_of_uses uses (by_number is.names))) (in_order_by_number is.names);
      last = uses_noted uses (by_number is.names);
      ends = refl;
    }
