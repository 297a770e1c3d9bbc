-- With one open group in each list the facts are told of the scopes that join a head.
use Rattle.std.proofs.Common.{◌≡◌, ◌∙◌, All, Bool, true, false, List, [], ◌∷◌, ◌++◌, Option, None, Some}
use Rattle.std.proofs.Common.{Result, Ok, Err, ap, arith, map, option_map, refl, subst, suc, sym, unwrap_or}
use Rattle.std.proofs.lemmas.List.{append-nil, map-append}
use Rattle.std.proofs.lemmas.List.Elements.{All-append, All-cons, All-nil}
use Rattle.std.specs.List.{AllZip}
use Rattle.rc_hir.specs.Model.{Environment, Fault}
use Rattle.rc_merge.proofs.Elements.{In, contains_in, in_contains}
use Rattle.rc_merge.proofs.ListLemmas.{went_merges}
use Rattle.rc_merge.proofs.MergedInto.{from_merged, into_merged, joined_merged, merged_in, merged_in-append}
use Rattle.rc_merge.proofs.RestLemmas.{rolled_back}
use Rattle.rc_merge.proofs.RulesAgree.{Agrees, Once, RulesAgree, rebuilt_agree}
use Rattle.rc_merge.proofs.ToldLemmas.{facts_are}
use Rattle.rc_merge.proofs.WentLemmas.{agree, blocks_once, list_scopes}
use Rattle.rc_merge.specs.Explained.{AreExplained, AreMergedFacts, DoesJoin, Explained, Joined, explained_rules}
use Rattle.rc_merge.specs.Explained.{joined_by, joined_in, numbers_of}
use Rattle.rc_merge.specs.Groups.{copies_at, head_at, joins_if, names_at}
use Rattle.rc_merge.specs.Joining.{Copies, joins}
use Rattle.rc_merge.specs.LastUses.{LastUses, last_uses_in}
use Rattle.rc_merge.specs.Merged.{Progress, gives_way, nothing_met}
use Rattle.rc_merge.specs.MergedList.{joined_at}
use Rattle.rc_merge.specs.Places.{Block, Item, NumberedScope, Other, Passed, items_of}
use Rattle.rc_merge.specs.declared.facts.MergedFacts.{MergedFacts}
use Rattle.rc_merge.specs.declared.tables.Log.{Log}
use Rattle.rc_merge.specs.inside.ListSteps.{merged_fate}
use Rattle.rc_merge.specs.inside.Told.{facts_of}
use Rattle.rc_merge.specs.inside.WentRules.{Met, gone_if, left_scope, none_met, progress_of, went_rules}
use Rattle.rc_names.specs.Numbers.{ScopeId}
use Rattle.rc_tree.proofs.DistinctLemmas.{at_most_once}
use Rattle.rc_tree.specs.Model.{ReactiveBlock, ReactiveScopeBlock, ReactiveStatement}
use Rattle.rc_tree.specs.Rebuilt.{Rules, rebuilt_block}
use Rattle.rc_tree.specs.ScopesIn.{HasScopesOnce, scopes_in}
use Rattle.rc_tree.specs.declared.fate.Fate.TheVariants.{DissolvedInto}
use Rattle.rc_tree.specs.declared.statement.ReactiveStatement.{out-ReactiveStatement}

-- the numbers of a scope and of its head, by the facts
abbrev numbers_told : MergedFacts → ScopeId × ScopeId
numbers_told facts = (facts.scope, facts.into)

module _ (env : Environment) (uses : LastUses) where
  abbrev facts_for : List Joined → List MergedFacts
  facts_for joined = map (facts_of env uses) joined

  -- a scope that is listed joins
  one_joins : (copies : Copies) (before : List Item) (scope : NumberedScope) (head : Option NumberedScope)
      → All (DoesJoin env uses) (joined_by env uses
      (joins_if env uses (copies_at env uses copies before) head (names_at before) scope) head scope (names_at before)
      (copies_at env uses copies before))
  one_joins copies before scope None = All-nil (DoesJoin env uses)
  one_joins copies before scope (Some head) =
      by (joins env uses (copies_at env uses copies before) head.own (names_at before) scope.own) refl
    where
      one : Joined
      one = record { head = head; next = scope; names = names_at before; copies = copies_at env uses copies before }

      by : (joined : Bool) → joins env uses one.copies head.own one.names scope.own ≡ joined
          → All (DoesJoin env uses) (joined_by env uses joined (Some head) scope one.names one.copies)
      by true is = All-cons (DoesJoin env uses) one [] is (All-nil (DoesJoin env uses))
      by false is = All-nil (DoesJoin env uses)

  all_join : (copies : Copies) (items : List Item) → All (DoesJoin env uses) (joined_in env uses copies items)
  all_join copies [] = All-nil (DoesJoin env uses)
  all_join copies (Passed row ∷ before) = all_join copies before
  all_join copies (Other ∷ before) = all_join copies before
  all_join copies (Block scope ∷ before) =
      All-append (DoesJoin env uses) (joined_in env uses copies before) _ (all_join copies before)
      (one_joins copies before scope (head_at env uses copies before))

  all_facts : (joined : List Joined) → All (DoesJoin env uses) joined
      → AllZip (AreMergedFacts env uses) joined (facts_for joined)
  all_facts [] join = tt
  all_facts (is ∷ joined) join = (
    facts_are env uses is (join 0 is (omega arith)),
    all_facts joined (λ k d below. join (suc k) d (omega (arith, below))),
  )

  told_numbers : (joined : List Joined) → map numbers_told (facts_for joined) ≡ map numbers_of joined
  told_numbers [] = refl
  told_numbers (is ∷ joined) = ap (λ rest. numbers_of is ∷ rest) (told_numbers joined)

  -- the definition's state is what the state stands for, and its scopes are those that are told
  record AreTold (met : Met) (is : Explained) : Type 0 where
    same : is.met ≡ progress_of met
    merged : met.log.merged ≡ Some (facts_for is.joined)
    join : All (DoesJoin env uses) is.joined
    fates : merged_in met.log.fates ≡ map numbers_of is.joined

  gone_told : (gives : Bool) (parent : ScopeId) (block : ReactiveScopeBlock) (met : Met)
      → ((gone_if gives parent block met).0.log.merged ≡ met.log.merged)
      × (merged_in (gone_if gives parent block met).0.log.fates ≡ merged_in met.log.fates)
  gone_told true parent block met = (
    refl,
    merged_in-append met.log.fates (record { scope = block.scope; fate = DissolvedInto parent } ∷ [])
        ∙ append-nil (merged_in met.log.fates),
  )
  gone_told false parent block met = (refl, refl)

  left_told : (around : Option ScopeId) (block : ReactiveScopeBlock) (met : Met)
      → ((left_scope env uses around block met).0.log.merged ≡ met.log.merged)
      × (merged_in (left_scope env uses around block met).0.log.fates ≡ merged_in met.log.fates)
  left_told None block met = (refl, refl)
  left_told (Some parent) block met = gone_told (gives_way env uses met.scopes parent block.scope) parent block met

  list_told : (xs : List ReactiveStatement) (met : Met) (joined : List Joined)
      → AreTold met (record { met = progress_of met; joined = joined }) → Once (list_scopes xs)
      → Agrees (went_rules env uses) (explained_rules env uses) AreTold list_scopes (list_scopes xs)
      ((went_rules env uses).block xs met)
      ((explained_rules env uses).block xs (record { met = progress_of met; joined = joined }))
  list_told xs met joined is once =
      let us = map out-ReactiveStatement xs in
      let items = items_of env met.scopes us in
      let copies = (progress_of met).copies in
      let agrees = (agree env uses).block xs met (progress_of met) refl once in
      let went = went_merges env uses met.scopes met.copies met.log us
      (blocks_once us (subst (λ ys. Once (list_scopes ys)) (sym (rolled_back xs)) once)) in (
        record {
          same = agrees.0;
          merged = ap (λ (log : Log). log.merged) went.told
              ∙ ap (option_map (λ told. told ++ facts_for (joined_in env uses copies items))) is.merged
              ∙ ap Some (sym (map-append (facts_of env uses) joined (joined_in env uses copies items)));
          join = All-append (DoesJoin env uses) joined (joined_in env uses copies items) is.join
              (all_join copies items);
          fates = ap (λ (log : Log). merged_in log.fates) went.told
              ∙ merged_in-append met.log.fates (joined_at env uses copies met.scopes items)
              ∙ (λ i. is.fates i ++ joined_merged env uses copies met.scopes items i)
              ∙ sym (map-append numbers_of joined (joined_in env uses copies items));
        },
        agrees.1,
        agrees.2,
      )

  told_agree : RulesAgree (went_rules env uses) (explained_rules env uses) AreTold
  told_agree = record {
    row = λ x met s is. let agrees = (agree env uses).row x met s.met is.same in (is, agrees.1, agrees.2);
    terminal = λ x met s is. let agrees = (agree env uses).terminal x met s.met is.same in (is, agrees.1, agrees.2);
    pruned_scope = λ x met s is.
        let agrees = (agree env uses).pruned_scope x met s.met is.same in (is, agrees.1, agrees.2);
    into_scope = λ of met s is. record {
      same = (agree env uses).into_scope of met s.met is.same;
      merged = is.merged;
      join = is.join;
      fates = is.fates;
    };
    scope = λ x before met s0 s was is.
        let agrees = (agree env uses).scope x before met s0.met s.met was.same is.same in
        let left = left_told before.around x met in (
          record {
            same = agrees.0;
            merged = left.0 ∙ is.merged;
            join = is.join;
            fates = left.1 ∙ is.fates;
          },
          agrees.1,
          agrees.2,
        );
    block = λ xs met s is once.
        subst (λ (p : Progress). Agrees (went_rules env uses) (explained_rules env uses) AreTold list_scopes
        (list_scopes xs) ((went_rules env uses).block xs met)
        ((explained_rules env uses).block xs (record { met = p; joined = s.joined }))) (sym is.same)
        (list_told xs met s.joined
        (record { same = refl; merged = is.merged; join = is.join; fates = is.fates }) once);
  }

module _ (env : Environment) (before after : ReactiveBlock) (ended : Met) where
  abbrev uses : LastUses
  uses = last_uses_in env before

  abbrev rules : Rules Explained
  rules = explained_rules env uses

  abbrev start : Explained
  start = record { met = nothing_met env.scopes; joined = [] }

  abbrev merged : List MergedFacts
  merged = unwrap_or ended.log.merged []

  explained : (s : Explained) (block : ReactiveBlock) → rebuilt_block rules before start ≡ Ok (s, block)
      → AreTold env uses ended s → AreExplained env before ended.log.fates merged
  explained s block rebuilt told =
      let same : merged ≡ facts_for env uses s.joined = ap (λ facts. unwrap_or facts []) told.merged in
      let numbers : merged_in ended.log.fates ≡ map numbers_told merged =
      told.fates ∙ sym (told_numbers env uses s.joined) ∙ ap (map numbers_told) (sym same) in
      record {
        joined = s.joined;
        lists = record { met = s.met; after = block; rebuilt = rebuilt };
        each = subst (AllZip (AreMergedFacts env uses) s.joined) (sym same) (all_facts env uses s.joined told.join);
        joins = told.join;
        decided = λ scope head. (
          λ there. contains_in (map numbers_told merged) (scope, head)
              (subst (In (scope, head)) numbers (into_merged ended.log.fates scope head
              (in_contains ended.log.fates (merged_fate scope head) there))),
          λ there. contains_in ended.log.fates (merged_fate scope head)
              (from_merged ended.log.fates (scope, head) (subst (In (scope, head)) (sym numbers)
              (in_contains (map numbers_told merged) (scope, head) there))),
        );
      }

  -- where a body was rebuilt so, and facts are asked for from the start, they are told
  pub explained_by_went : HasScopesOnce before
      → rebuilt_block (went_rules env uses) before (none_met env.scopes (Some [])) ≡ Ok (ended, after)
      → AreExplained env before ended.log.fates merged
  explained_by_went once is =
      by (rebuilt_block rules before start) refl
      (subst (λ e. Agrees (went_rules env uses) rules (AreTold env uses) scopes_in (scopes_in before) e
      (rebuilt_block rules before start)) is
      (rebuilt_agree (went_rules env uses) rules (AreTold env uses) (told_agree env uses) before
      (none_met env.scopes (Some [])) start
      (record { same = refl; merged = refl; join = All-nil (DoesJoin env uses); fates = refl })
      (at_most_once (scopes_in before) once)))
    where
      by : (e : Result (Explained × ReactiveBlock) Fault) → rebuilt_block rules before start ≡ e
          → Agrees (went_rules env uses) rules (AreTold env uses) scopes_in (scopes_in before) (Ok (ended, after)) e
          → AreExplained env before ended.log.fates merged
      by (Ok b) rebuilt h = explained b.0 b.1 rebuilt h.0
      by (Err fault) rebuilt h = absurd h
