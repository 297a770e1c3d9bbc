-- Merging tells each scope block that it takes away, those that gave way and those that joined a head; so it decides by
-- its rule.
use Rattle.std.proofs.Common.{◌≡◌, ◌∙◌, ◌+◌, ℕ, Bool, true, false, List, [], ◌∷◌, ◌++◌, Option, None, Some, Ok}
use Rattle.std.proofs.Common.{arith, map, refl, sym, ap, if◌then◌else◌}
use Rattle.std.proofs.lemmas.List.{map-append}
use Rattle.rc_hir.specs.Model.{Environment, ReactiveScope}
use Rattle.rc_names.specs.Numbers.{ScopeId, times}
use Rattle.rc_merge.proofs.RestLemmas.{IsNoBlock, none_pulled, rolled_back, row_no_block}
use Rattle.rc_merge.specs.Groups.{group_at, joins_at}
use Rattle.rc_merge.specs.Joining.{Copies}
use Rattle.rc_merge.specs.LastUses.{LastUses, last_uses_in}
use Rattle.rc_merge.specs.Merged.{Merges, Progress, dissolved_if, gives_way, merging_rules, met_list, met_scope}
use Rattle.rc_merge.specs.Merged.{nothing_met}
use Rattle.rc_merge.specs.MergedList.{Rest, ends_group, filled, joined_at, merged_list, met_block, passed_over}
use Rattle.rc_merge.specs.MergedList.{pulled_of, rest_at, rest_by, told_of}
use Rattle.rc_merge.specs.Places.{Item, Passed, Block, Other, NumberedScope, item_of_row, items_before, items_of}
use Rattle.rc_merge.specs.Places.{scope_at}
use Rattle.rc_tree.proofs.AloneLemmas.{alone-Instruction, alone-Scope, alone-PrunedScope}
use Rattle.rc_tree.proofs.CollectedLemmas.{collected-block, collected-Scope}
use Rattle.rc_tree.proofs.DecidedLemmas.{left_once, loses_decided}
use Rattle.rc_tree.proofs.DistinctLemmas.{times-append}
use Rattle.rc_tree.proofs.JoiningLemmas.{lists_monoid, all_of-append}
use Rattle.rc_tree.specs.Collected.{collected_list, collected_statement}
use Rattle.rc_tree.specs.Decided.{LosesDecided, decided}
use Rattle.rc_tree.specs.inside.DecisionLogs.{DecidesOf, TellsDecisions}
use Rattle.rc_tree.specs.Joining.{all_of, lists}
use Rattle.rc_tree.specs.ScopesIn.{HasScopesOnce, scope_parts, scopes_in}
use Rattle.rc_tree.specs.Unrolled.{UnrolledStatement}
use Rattle.rc_tree.specs.Model.{ReactiveBlock, ReactiveInstruction, ReactiveScopeBlock, ReactiveStatement}
use Rattle.rc_tree.specs.declared.fate.Fate.TheVariants.{DissolvedInto}
use Rattle.rc_tree.specs.declared.fate.ScopeFate.{ScopeFate}
use Rattle.rc_tree.specs.declared.statement.ReactiveStatement.{out-ReactiveStatement, roll-ReactiveStatement}
use Rattle.rc_tree.specs.declared.statement.ReactiveStatement.TheOpen as layer
use Rattle.rc_tree.specs.declared.statement.ReactiveStatement.TheVariants as reactive

-- how often the scope has a scope block among statements, in a statement, and in what was told
module _ (scope : ScopeId) where
  abbrev among : List ReactiveStatement → ℕ
  among xs = times scope (collected_list scope_parts xs)

  abbrev within : ReactiveStatement → ℕ
  within x = times scope (collected_statement scope_parts x)

  abbrev told : List ScopeFate → ℕ
  told log = times scope (decided log)

  among-cons : (x : ReactiveStatement) (xs : List ReactiveStatement) → among (x ∷ xs) ≡ within x + among xs
  among-cons x xs = times-append scope (collected_statement scope_parts x) (collected_list scope_parts xs)

  among-append : (xs ys : List ReactiveStatement) → among (xs ++ ys) ≡ among xs + among ys
  among-append xs ys =
      ap (times scope) (ap (all_of lists) (map-append (collected_statement scope_parts) xs ys)
      ∙ all_of-append lists lists_monoid (map (collected_statement scope_parts) xs)
      (map (collected_statement scope_parts) ys))
      ∙ times-append scope (collected_list scope_parts xs) (collected_list scope_parts ys)

  told-append : (log more : List ScopeFate) → told (log ++ more) ≡ told log + told more
  told-append log more = ap (times scope) (map-append (λ (entry : ScopeFate). entry.scope) log more)
      ∙ times-append scope (decided log) (decided more)

  within-scope : (block : ReactiveScopeBlock)
      → within (reactive.Scope block) ≡ among block.instructions.statements + times scope (block.scope ∷ [])
  within-scope block = ap (times scope) (collected-Scope scope_parts block
      ∙ ap (λ inside. inside ++ block.scope ∷ []) (collected-block scope_parts block.instructions))
      ∙ times-append scope (collected_list scope_parts block.instructions.statements) (block.scope ∷ [])

  -- the scope blocks of what becomes of a list
  abbrev left : Rest → ℕ
  left rest = among (pulled_of rest) + among rest.staying

  left-passed : (x : ReactiveStatement) (rest : Rest)
      → left (passed_over x rest.pulled rest.staying) ≡ within x + left rest
  left-passed x rest = by rest.pulled rest.staying
    where
      by : (pulled : Option (List ReactiveStatement)) (staying : List ReactiveStatement)
          → left (passed_over x pulled staying)
          ≡ within x + left (record { pulled = pulled; staying = staying })
      by None staying = let a = among-cons x staying in omega (arith, a)
      by (Some inside) staying = let a = among-cons x inside in omega (arith, a)

  left-ended : (x : ReactiveStatement) (rest : Rest) → rest.pulled ≡ None
      → left (ends_group x rest) ≡ within x + left rest
  left-ended x rest none =
      let a = among-cons x rest.staying in
      let b : among (pulled_of rest) ≡ 0 = rw (none) refl in
      omega (arith, a, b)

  -- a scope block that joins is counted as one that is told
  left-met : (joins : Bool) (block : ReactiveScopeBlock) (rest : Rest)
      → left (met_block joins block rest) + (if joins then times scope (block.scope ∷ []) else 0)
      ≡ times scope (block.scope ∷ []) + among block.instructions.statements + left rest
  left-met true block rest =
      let a = among-append block.instructions.statements (pulled_of rest) in
      omega (arith, a)
  left-met false block rest =
      let a = among-cons (reactive.Scope (filled block (pulled_of rest))) rest.staying in
      let b = within-scope (filled block (pulled_of rest)) in
      let c = among-append block.instructions.statements (pulled_of rest) in
      omega (arith, a, b, c)

module _ (env : Environment) (uses : LastUses) (copies : Copies) (scopes : List ReactiveScope) (scope : ScopeId) where
  abbrev rest : List UnrolledStatement → List Item → Rest
  rest = rest_at env uses copies scopes

  -- what is told up to a place
  abbrev told_at : List Item → ℕ
  told_at before = told scope (joined_at env uses copies scopes before)

  told-of : (joins : Bool) (of head : NumberedScope)
      → told scope (told_of env uses copies scopes joins of head)
      ≡ (if joins then times scope (of.number ∷ []) else 0)
  told-of true of head = refl
  told-of false of head = refl

  -- the scope blocks of a list are those of what it becomes, and those that joined a head
  abbrev Balanced : List UnrolledStatement → List Item → Type 0
  Balanced us before = among scope (map roll-ReactiveStatement us) + told_at before
      ≡ left scope (rest us before) + told_at (items_before env scopes us before)

  -- after a statement that ends a group
  ended : (x : UnrolledStatement) (us : List UnrolledStatement) (before : List Item) → Balanced us (Other ∷ before)
      → among scope (roll-ReactiveStatement x ∷ map roll-ReactiveStatement us) + told_at before
      ≡ left scope (ends_group (roll-ReactiveStatement x) (rest us (Other ∷ before)))
      + told_at (items_before env scopes us (Other ∷ before))
  ended x us before later =
      let a = among-cons scope (roll-ReactiveStatement x) (map roll-ReactiveStatement us) in
      let b = left-ended scope (roll-ReactiveStatement x) (rest us (Other ∷ before))
      (none_pulled env uses copies scopes us (Other ∷ before) refl) in
      omega (arith, a, b, later)

  row_balanced : (it : Item) → IsNoBlock it → (row : ReactiveInstruction) (us : List UnrolledStatement)
      (before : List Item) → Balanced us (it ∷ before)
      → among scope (roll-ReactiveStatement (layer.Instruction row) ∷ map roll-ReactiveStatement us) + told_at before
      ≡ left scope (rest_by env uses copies scopes it (layer.Instruction row) before (rest us (it ∷ before)))
      + told_at (items_before env scopes us (it ∷ before))
  row_balanced (Passed passed) is row us before later =
      let x = roll-ReactiveStatement (layer.Instruction row) in
      let a = among-cons scope x (map roll-ReactiveStatement us) in
      let b = left-passed scope x (rest us (Passed passed ∷ before)) in
      omega (arith, a, b, later)
  row_balanced Other is row us before later = ended (layer.Instruction row) us before later
  row_balanced (Block of) is row us before later = absurd is

  balanced : (us : List UnrolledStatement) (before : List Item) → Balanced us before
  balanced [] before = omega arith
  balanced (layer.Terminal x ∷ us) before = ended (layer.Terminal x) us before (balanced us (Other ∷ before))
  balanced (layer.PrunedScope x ∷ us) before = ended (layer.PrunedScope x) us before (balanced us (Other ∷ before))
  balanced (layer.Scope block ∷ us) before =
      let x = scope_at scopes block.scope in
      let joins = joins_at env uses copies before x in
      let group = group_at env uses copies before x in
      let later = balanced us (Block x ∷ before) in
      let a = among-cons scope (roll-ReactiveStatement (layer.Scope block)) (map roll-ReactiveStatement us) in
      let b = ap (within scope) (reactive.rolls-Scope block) in
      let c = within-scope scope block in
      let d = left-met scope joins block (rest us (Block x ∷ before)) in
      let e = told-append scope (joined_at env uses copies scopes before) (told_of env uses copies scopes joins x group) in
      let f = told-of joins x group in
      omega (arith, later, a, b, c, d, e, f)
  balanced (layer.Instruction row ∷ us) before =
      row_balanced (item_of_row env row) (row_no_block env row) row us before
      (balanced us (item_of_row env row ∷ before))

  -- a whole list
  pub merged_tells : (xs : List ReactiveStatement) → among scope xs
      ≡ among scope (merged_list env uses copies scopes (map out-ReactiveStatement xs))
      + told_at (items_of env scopes (map out-ReactiveStatement xs))
  merged_tells xs =
      let us = map out-ReactiveStatement xs in
      let a = balanced us [] in
      let b = ap (among scope) (rolled_back xs) in
      let c : among scope (pulled_of (rest us [])) ≡ 0 = rw (none_pulled env uses copies scopes us [] refl) refl in
      omega (arith, a, b, c)

module _ (env : Environment) (uses : LastUses) where
  abbrev Tells : List ScopeId → Progress → Progress × List ReactiveStatement → Type 0
  Tells has met r = DecidesOf (λ (met : Progress). met.log) has met (Ok r)

  same : (has : List ScopeId) (met : Progress) (after : Progress × List ReactiveStatement) → after.0.log ≡ met.log
      → collected_list scope_parts after.1 ≡ has → Tells has met after
  same has met after log list scope =
      ap (times scope) (λ i. sym list i ++ decided (sym log i))

  dissolved_tells : (dissolves : Bool) (parent : ScopeId) (block : ReactiveScopeBlock) (met : Progress)
      → Tells (scopes_in block.instructions ++ block.scope ∷ []) met (dissolved_if env uses dissolves parent block met)
  dissolved_tells true parent block met = λ scope.
      let own = block.instructions.statements in
      let gone = record { scope = block.scope; fate = DissolvedInto parent } ∷ [] in
      let a = times-append scope (scopes_in block.instructions ++ block.scope ∷ []) (decided met.log) in
      let b = times-append scope (scopes_in block.instructions) (block.scope ∷ []) in
      let c = ap (times scope) (collected-block scope_parts block.instructions) in
      let d = times-append scope (collected_list scope_parts own) (decided (met.log ++ gone)) in
      let e = told-append scope met.log gone in
      omega (arith, a, b, c, d, e)
  dissolved_tells false parent block met = same (scopes_in block.instructions ++ block.scope ∷ []) met
      (record met { around = Some parent }, reactive.Scope block ∷ []) refl
      (alone-Scope scope_parts lists_monoid block)

  scope_tells : (around : Option ScopeId) (block : ReactiveScopeBlock) (met : Progress)
      → Tells (scopes_in block.instructions ++ block.scope ∷ []) met (met_scope env uses around block met)
  scope_tells None block met = same (scopes_in block.instructions ++ block.scope ∷ []) met
      (record met { around = None }, reactive.Scope block ∷ []) refl (alone-Scope scope_parts lists_monoid block)
  scope_tells (Some parent) block met =
      dissolved_tells (gives_way env uses met.scopes parent block.scope) parent block met

  list_tells : (xs : List ReactiveStatement) (met : Progress)
      → Tells (collected_list scope_parts xs) met (met_list env uses xs met)
  list_tells xs met scope =
      let us = map out-ReactiveStatement xs in
      let joined = joined_at env uses met.copies met.scopes (items_of env met.scopes us) in
      let a = merged_tells env uses met.copies met.scopes scope xs in
      let b = times-append scope (collected_list scope_parts xs) (decided met.log) in
      let c = times-append scope (collected_list scope_parts (merged_list env uses met.copies met.scopes us))
      (decided (met.log ++ joined)) in
      let d = told-append scope met.log joined in
      omega (arith, a, b, c, d)

  -- merging tells each scope block that it takes away
  pub merging_tells : TellsDecisions (merging_rules env uses) (λ met. met.log)
  merging_tells = record {
    row = λ x met. same [] met (met, reactive.Instruction x ∷ []) refl (alone-Instruction scope_parts lists_monoid x);
    terminal = λ x met. same (collected_statement scope_parts (reactive.Terminal x)) met (met, reactive.Terminal x ∷ [])
        refl (lists_monoid.behind (collected_statement scope_parts (reactive.Terminal x)));
    pruned_scope = λ x met. same (scopes_in x.instructions) met (met, reactive.PrunedScope x ∷ []) refl
        (alone-PrunedScope scope_parts lists_monoid x);
    into_scope = λ scope met. refl;
    scope = λ before x met. scope_tells before.around x met;
    block = list_tells;
  }

module _ (before : ReactiveBlock) (old : Environment) (after : ReactiveBlock) (new : Environment)
    (log : List ScopeFate) (merges : Merges before old after new log) where
  -- the scope blocks after are those before without the decided ones
  pub merging_loses : LosesDecided before after log
  merging_loses = loses_decided (merging_rules old (last_uses_in old before)) (λ met. met.log)
      (merging_tells old (last_uses_in old before)) before after (nothing_met old.scopes)
      (record { around = None; scopes = new.scopes; copies = merges.copies; log = log }) refl merges.rebuilt

  -- scopes with one scope block before have one at most after
  pub scopes_once : HasScopesOnce before → HasScopesOnce after
  scopes_once = left_once before after log merging_loses
