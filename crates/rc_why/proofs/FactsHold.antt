-- The facts that are made of what the passes told are those that the rules of the fates read.
use Rattle.std.proofs.Common.{◌≡◌, ◌∙◌, ◌<◌, ◌≤◌, Bool, true, false, List, [], ◌∷◌, None, Some, Contains, ap, arith, length}
use Rattle.std.proofs.Common.{inl, inr, map, refl, subst, sym}
use Rattle.std.specs.List.{IsDistinct, find}
use Rattle.std.specs.Option.{option_map_or}
use Rattle.std.specs.Prelude.{◌||◌, slice_get}
use Rattle.std.proofs.lemmas.List.Elements.{All-contains}
use Rattle.std.proofs.lemmas.Map.Views.{Contains-from_any, list_any-from_Contains}
use Rattle.std.proofs.lemmas.Option.{slice_get_cases}
use Rattle.rc_checks.specs.ScopeBlocks.{ScopeBlock}
use Rattle.rc_checks.specs.UnusedScopes.{has_entry, has_own_output, is_used}
use Rattle.rc_escape.specs.Outputs.{outputs}
use Rattle.rc_flow.specs.InvalidatingCauses.{IsInvalidatingCause}
use Rattle.rc_flow.specs.declared.invalidating_cause.InvalidatingCause.{InvalidatingCause}
use Rattle.rc_hir.specs.Model.{Environment, ReactiveScope}
use Rattle.rc_merge.proofs.OneMerging.{one_log}
use Rattle.rc_merge.specs.Explained.{AreMergedFacts, DoesJoin, pairs_of}
use Rattle.rc_merge.specs.LastUses.{last_uses_in}
use Rattle.rc_merge.specs.Merged.{merging_rule}
use Rattle.rc_merge.specs.Places.{scope_at}
use Rattle.rc_merge.specs.declared.facts.MergedFacts.{MergedFacts}
use Rattle.rc_names.proofs.NumbersLemmas.{ids_equivalence, same_id-eq}
use Rattle.rc_names.specs.Numbers.{DeclarationId, ScopeId, is_among, same_id}
use Rattle.rc_pipe.proofs.EnvironmentStays.{dependencies_keep_numbers}
use Rattle.rc_pipe.proofs.PassesLemmas.{merging_first}
use Rattle.rc_pipe.specs.Explained.{AreTold}
use Rattle.rc_pipe.specs.Passes.{IsPruned, PassState, fate_rules}
use Rattle.rc_pipe.specs.declared.explaining.Told.{Told}
use Rattle.rc_tree.proofs.ListedOnce.{from_map, into_map, one_element}
use Rattle.rc_tree.specs.Decided.{IsFateBy, decided}
use Rattle.rc_tree.specs.declared.fate.Fate.{Fate}
use Rattle.rc_tree.specs.declared.fate.Fate.TheVariants.{AlwaysInvalidating, DissolvedInto, Kept, MergedInto, NotEscaping}
use Rattle.rc_tree.specs.declared.fate.Fate.TheVariants.{Unused}
use Rattle.rc_tree.specs.declared.fate.ScopeFate.{ScopeFate}
use Rattle.rc_why.proofs.CountedLemmas.{counted_none}
use Rattle.rc_why.proofs.FirstRules.{invalidating_first, unused_first}
use Rattle.rc_why.proofs.ZipLemmas.{HasRelated, each_related}
use Rattle.rc_why.specs.CountedReturns.{CountedBlock, counted_blocks}
use Rattle.rc_why.specs.ReasonOf.{AreUnusedFacts, FactsOf, memo_set, pairs_at}
use Rattle.rc_why.specs.declared.reason.Facts.{Facts}
use Rattle.rc_why.specs.declared.reason.Facts.TheVariants as facts
use Rattle.rc_why.specs.inside.ToldFacts.{AreFactsBy, IsThere, IsToldCause, IsToldMerged, as_facts, caused_scopes}
use Rattle.rc_why.specs.inside.ToldFacts.{declarers_at, declarers_of, merged_scopes, told_pairs}

-- two answers that are true in the same cases are the same
same_answer : (answer other : Bool) → (answer ≡ true → other ≡ true) → (other ≡ true → answer ≡ true) → answer ≡ other
same_answer true other to back = sym (to refl)
same_answer false true to back = back refl
same_answer false false to back = refl

-- a scope that isn't used reassigns nothing and has no `Return`
no_return : (own : ReactiveScope) (scope : ScopeId) (returns : Bool) → is_used own scope returns ≡ false
    → returns ≡ false
no_return own scope true unused = unused
no_return own scope false unused = refl

no_entry : {X : Type 0} (xs : List X) (rest : Bool) → (has_entry xs || rest) ≡ false → 0 ≡ length xs
no_entry [] rest none = refl
no_entry (x ∷ xs) rest none = absurd (let no : ⊥ = cc in no)

module _ {spelled pruned : PassState} (passes : IsPruned spelled pruned) (told : Told) (is : AreTold passes told) where
  -- passes that told change only the scopes of the environment up to where they did
  same_labeled : passes.labeled.env ≡ spelled.env
  same_labeled = passes.labels.kept_environment

  abbrev with_scopes : List ReactiveScope → Environment → Environment
  with_scopes scopes env = record env { scopes = scopes }

  same_escaping : passes.escaping.env ≡ spelled.env
  same_escaping = passes.escapes.kept_environment ∙ same_labeled

  same_used : passes.others.used.env ≡ with_scopes passes.others.used.env.scopes spelled.env
  same_used = passes.others.scopes.kept_environment ∙ passes.others.dependencies.scopes.others
      ∙ (λ i. with_scopes (sym (ap (λ env. env.scopes) passes.others.scopes.kept_environment) i) (same_escaping i))

  same_pairs : (scope : ScopeId) → told_pairs spelled.env told.received scope ≡ pairs_at passes.others.used.env scope
  same_pairs scope = ap (λ scopes. told_pairs spelled.env scopes scope) is.received
      ∙ ap (λ env. pairs_of env (scope_at passes.others.used.env.scopes scope).own.dependencies) (sym same_used)

  same_names : (name : DeclarationId) → is_among told.memoized name ≡ is_among (memo_set passes) name
  same_names name =
      let same = is.memoized.same name in
      same_answer (is_among told.memoized name) (is_among (memo_set passes) name)
      (λ among. list_any-from_Contains ids_equivalence name (memo_set passes)
      (same.0 (Contains-from_any same_id-eq name told.memoized among)))
      (λ among. list_any-from_Contains ids_equivalence name told.memoized
      (same.1 (Contains-from_any same_id-eq name (memo_set passes) among)))

  same_output : (scope : ScopeId) → find (is_among told.memoized) (outputs spelled.env scope)
      ≡ find (is_among (memo_set passes)) (outputs passes.labeled.env scope)
  same_output scope = λ i. find (λ name. same_names name i) (outputs (sym same_labeled i) scope)

  -- the scope's entry where the pass on unused scopes judges
  entry_of : (scope : ScopeId) → scope.0 < length spelled.env.scopes
      → (own : ReactiveScope) × (slice_get passes.others.reactive.env.scopes scope.0 ≡ Some own)
  entry_of scope known =
      let kept = (dependencies_keep_numbers passes.escaping.env passes.others.reactive.env
      passes.others.dependencies.scopes).scopes in
      let same = ap (λ env. length env.scopes) same_escaping in
      elim (slice_get_cases passes.others.reactive.env.scopes scope.0).1 [
        | inl at ↦ (at.0, at.2)
        | inr past ↦ absurd (let no : ⊥ = omega (arith, known, kept, same, past.0) in no)
      ]

  same_declarers : (scope : ScopeId) (own : ReactiveScope)
      → slice_get passes.others.reactive.env.scopes scope.0 ≡ Some own
      → declarers_at told.received scope ≡ declarers_of own
  same_declarers scope own here =
      ap (λ scopes. declarers_at scopes scope)
      (is.received ∙ ap (λ env. env.scopes) passes.others.scopes.kept_environment)
      ∙ ap (λ entry. option_map_or declarers_of entry []) here

  unused_facts : (scope : ScopeId) → scope.0 < length spelled.env.scopes → IsFateBy (fate_rules passes) scope Unused
      → AreUnusedFacts passes.others.reactive.env passes.others.reactive.func.body scope
      (declarers_at told.received scope) 0 0
  unused_facts scope known fate =
      let entry = entry_of scope known in
      let judged = unused_first passes scope fate in
      let unused : is_used entry.0 judged.0.scope judged.0.returns ≡ false =
      ap (λ found. option_map_or (λ own. is_used own judged.0.scope judged.0.returns) found false)
      (sym (ap (λ (id : ScopeId). slice_get passes.others.reactive.env.scopes id.0) judged.2 ∙ entry.1)) ∙ judged.3 in
      let none = no_return entry.0 judged.0.scope judged.0.returns unused in
      record {
        own = entry.0;
        here = entry.1;
        declared = same_declarers scope entry.0 entry.1;
        reassigned = no_entry entry.0.reassignments _
            (sym (ap (λ returns. is_used entry.0 judged.0.scope returns) none) ∙ unused);
        returned = subst (λ id. Contains {X = CountedBlock} (counted_blocks passes.others.reactive.func.body)
            (record { scope = id; returns = 0 })) judged.2
            (counted_none passes.others.reactive.func.body judged.0 judged.1 none);
      }

  -- merging decided the fates that come by its rule
  joined : (scope : ScopeId) (head : ScopeId) → IsFateBy (fate_rules passes) scope (MergedInto head)
      → Contains passes.others.joined (record { scope = scope; fate = MergedInto head })
  joined scope head fate =
      let rule = merging_first passes scope (MergedInto head) tt fate in
      subst (λ log. Contains log (record { scope = scope; fate = MergedInto head }))
      (one_log passes.others.used.func.body passes.others.used.env rule.0 passes.others.merged.func.body rule.1
      passes.others.merged.env rule.2 passes.others.joined rule.3 passes.others.merges.scopes) rule.4

  abbrev numbers_of : MergedFacts → ScopeId × ScopeId
  numbers_of it = (it.scope, it.into)

  -- what was told of a scope with that fate has the head of the fate
  same_head : IsDistinct same_id (decided passes.others.joined) → (scope head : ScopeId)
      → IsFateBy (fate_rules passes) scope (MergedInto head) → (it : MergedFacts) → Contains told.merged it
      → it.scope ≡ scope → it.into ≡ head
  same_head once scope head fate it among of =
      let own = (is.merged.decided it.scope it.into).1 (into_map numbers_of told.merged it among) in
      let same = one_element same_id ids_equivalence.refl (λ (entry : ScopeFate). entry.scope) passes.others.joined once
      _ _ own (joined scope head fate) of in
      let fates : ◌≡◌ {A = Fate} (MergedInto it.into) (MergedInto head) = ap (λ (entry : ScopeFate). entry.fate) same in
      cc

  merged_facts : IsDistinct same_id (decided passes.others.joined) → (scope head : ScopeId)
      → IsFateBy (fate_rules passes) scope (MergedInto head) → (it : Facts) → IsToldMerged told.merged scope it
      → FactsOf passes scope (MergedInto head) it
  merged_facts once scope head fate it by =
      let env = passes.others.used.env in
      let body = passes.others.used.func.body in
      let found = All-contains (HasRelated (AreMergedFacts env (last_uses_in env body)) is.merged.joined) told.merged
      by.told (each_related (AreMergedFacts env (last_uses_in env body)) is.merged.joined told.merged is.merged.each)
      by.among in
      let into = same_head once scope head fate by.told by.among by.of in
      subst (FactsOf passes scope (MergedInto head)) (sym by.is) (
        found.0,
        record {
          joined = is.merged.joined;
          lists = is.merged.lists;
          among = found.1;
          joins = All-contains (DoesJoin env (last_uses_in env body)) is.merged.joined found.0 is.merged.joins found.1;
        },
        subst (AreMergedFacts env (last_uses_in env body) found.0)
            (λ i. record by.told { scope = by.of i; into = into i }) found.2,
      )

  invalidating_facts : (scope : ScopeId) (it : Facts) → IsToldCause told.causes scope it
      → FactsOf passes scope AlwaysInvalidating it
  invalidating_facts scope it by =
      let IsCause = IsInvalidatingCause passes.others.merged.env passes.others.merged.func.body in
      subst (FactsOf passes scope AlwaysInvalidating) (sym by.is) (subst IsCause
      (λ i. record by.cause { scope = by.of i }) (All-contains IsCause told.causes by.cause is.causes by.among))

  -- the facts of a scope of the table, by its fate
  pub facts_hold : IsDistinct same_id (decided passes.others.joined) → (scope : ScopeId)
      → scope.0 < length spelled.env.scopes → (fate : Fate) → IsFateBy (fate_rules passes) scope fate → (it : Facts)
      → AreFactsBy spelled.env told scope fate it → FactsOf passes scope fate it
  facts_hold once scope known Kept fate it by = subst (FactsOf passes scope Kept) (sym by) (same_output scope)
  facts_hold once scope known NotEscaping fate it by = subst (FactsOf passes scope NotEscaping) (sym by)
      (ap (λ env. outputs env scope) (sym same_labeled), is.memoized)
  facts_hold once scope known Unused fate it by =
      subst (FactsOf passes scope Unused) (sym by) (unused_facts scope known fate)
  facts_hold once scope known (DissolvedInto parent) fate it by =
      subst (FactsOf passes scope (DissolvedInto parent)) (sym by) (same_pairs scope, same_pairs parent)
  facts_hold once scope known (MergedInto head) fate it by = merged_facts once scope head fate it by
  facts_hold once scope known AlwaysInvalidating fate it by = invalidating_facts scope it by

  -- what a pass tells of scopes with that fate it told of this one
  pub is_there : (scope : ScopeId) (fate : Fate) → IsFateBy (fate_rules passes) scope fate → IsThere told scope fate
  is_there scope (MergedInto head) fate =
      let found = from_map numbers_of told.merged (scope, head) ((is.merged.decided scope head).0 (joined scope head fate)) in
      subst (Contains (merged_scopes told.merged)) (ap (λ (numbers : ScopeId × ScopeId). numbers.0) found.2)
      (into_map (λ (it : MergedFacts). it.scope) told.merged found.0 found.1)
  is_there scope AlwaysInvalidating fate = is.each scope (invalidating_first passes scope fate)
  is_there scope Kept fate = tt
  is_there scope NotEscaping fate = tt
  is_there scope Unused fate = tt
  is_there scope (DissolvedInto parent) fate = tt
