-- With one open group in each list each number stays in its table, whatever the scope blocks are.
use Rattle.std.proofs.Common.{◌≡◌, ◌∙◌, ℕ, zero, suc, List, [], ◌∷◌, ◌++◌, Option, None, Some, Bool, true, false, All}
use Rattle.std.proofs.Common.{flat_map, length, map, refl, sym, ap, subst, Ok}
use Rattle.std.specs.Prelude.{slice_set}
use Rattle.std.proofs.lemmas.List.{length-set, map-append}
use Rattle.std.proofs.lemmas.List.Elements.{All-append, All-nil}
use Rattle.rc_hir.specs.EnvironmentNames.{scope_names}
use Rattle.rc_hir.specs.Names.{IsInTable, NamesInTables, lengths}
use Rattle.rc_hir.specs.PartNames.{Name, scope_name}
use Rattle.rc_hir.specs.Model.{Environment, HirFunction, ReactiveScope}
use Rattle.rc_names.specs.Numbers.{ScopeId}
use Rattle.rc_merge.proofs.KnownLemmas.{PartHolds, ScopeHolds, each_holds, grown_holds, of_parts, scopes_known}
use Rattle.rc_merge.proofs.KnownLemmas.{graph_known, tables_known}
use Rattle.rc_merge.proofs.MergedHolds.{IsOfStatements}
use Rattle.rc_merge.proofs.MergingFacts.{of_statements}
use Rattle.rc_merge.proofs.RebuiltInvariant.{KeepsFacts, rebuilt_facts}
use Rattle.rc_merge.proofs.RestLemmas.{rolled_back}
use Rattle.rc_merge.specs.Joining.{begins}
use Rattle.rc_merge.specs.LastUses.{LastUses}
use Rattle.rc_merge.specs.Merged.{gives_way}
use Rattle.rc_merge.specs.Places.{no_scope, scope_at}
use Rattle.rc_merge.specs.declared.facts.MergedFacts.{MergedFacts}
use Rattle.rc_merge.specs.inside.ListSteps.{Going, Open, begin_if, block_of, close, closed, grown_if, join_if, joins_open}
use Rattle.rc_merge.specs.inside.ListSteps.{put_back, row_statements, starting, stay_if, step, step_passing}
use Rattle.rc_merge.specs.inside.ListSteps.{step_row, step_scope, steps, taken_in, told}
use Rattle.rc_merge.specs.inside.Rows.{row_passes}
use Rattle.rc_merge.specs.inside.WentRules.{Met, gone_if, left_scope, none_met, went_list, went_rules}
use Rattle.rc_runs.proofs.AllLemmas.{All-left, All-right}
use Rattle.rc_tree.proofs.AloneLemmas.{alone-Instruction, alone-PrunedScope, alone-Scope, alone-Terminal}
use Rattle.rc_tree.proofs.CollectedLemmas.{collected-block}
use Rattle.rc_tree.proofs.JoiningLemmas.{lists_monoid}
use Rattle.rc_tree.specs.Rebuilt.{rebuilt_block}
use Rattle.rc_tree.specs.TreeNames.{TreeInTables, names_in, names_in_list, names_of_parts}
use Rattle.rc_tree.specs.Unrolled.{UnrolledStatement}
use Rattle.rc_tree.specs.Model.{PrunedReactiveScopeBlock, ReactiveBlock, ReactiveFunction, ReactiveInstruction}
use Rattle.rc_tree.specs.Model.{ReactiveScopeBlock, ReactiveStatement}
use Rattle.rc_tree.specs.declared.statement.ReactiveStatement.{out-ReactiveStatement, roll-ReactiveStatement}
use Rattle.rc_tree.specs.declared.statement.ReactiveStatement.TheOpen as layer
use Rattle.rc_tree.specs.declared.statement.ReactiveStatement.TheVariants as reactive

module _ (P : Name → Type 0) where
  -- each number of the statements, and of the scopes, is such
  abbrev ListHolds : List ReactiveStatement → Type 0
  ListHolds xs = All P (names_in_list xs)

  lists : IsOfStatements ListHolds
  lists = of_statements (PartHolds P) names_of_parts lists_monoid (of_parts P)

  abbrev ScopesHold : List ReactiveScope → Type 0
  ScopesHold scopes = All P (flat_map scope_names scopes)

  set_holds : (xs : List ReactiveScope) (k : ℕ) (v : ReactiveScope) → ScopesHold xs → ScopeHolds P v
      → ScopesHold (slice_set xs k v)
  set_holds [] k v all one = all
  set_holds (x ∷ xs) zero v all one = All-append P (scope_names v) (flat_map scope_names xs) one
      (All-right P (scope_names x) (flat_map scope_names xs) all)
  set_holds (x ∷ xs) (suc k) v all one =
      All-append P (scope_names x) (flat_map scope_names (slice_set xs k v))
      (All-left P (scope_names x) (flat_map scope_names xs) all)
      (set_holds xs k v (All-right P (scope_names x) (flat_map scope_names xs) all) one)

  -- a scope block of that scope with these statements
  block_holds : (number : ScopeId) (inside : List ReactiveStatement) → All P (scope_name number) → ListHolds inside
      → ListHolds (reactive.Scope (block_of number inside) ∷ [])
  block_holds number inside one all =
      let x : ReactiveBlock = record { statements = inside } in
      subst (All P) (sym (alone-Scope names_of_parts lists_monoid (block_of number inside)))
      (All-append P (scope_name number) (names_in x) one
      (subst (All P) (sym (collected-block names_of_parts x)) all))

  number_holds : (block : ReactiveScopeBlock) → ListHolds (reactive.Scope block ∷ []) → All P (scope_name block.scope)
  number_holds block all = All-left P (scope_name block.scope) (names_in block.instructions)
      (subst (All P) (alone-Scope names_of_parts lists_monoid block) all)

  rows_hold : (rows : List ReactiveInstruction) (row : ReactiveInstruction) → ListHolds (row_statements rows)
      → ListHolds (reactive.Instruction row ∷ []) → ListHolds (row_statements (rows ++ row ∷ []))
  rows_hold rows row all one =
      subst ListHolds (sym (map-append (λ (r : ReactiveInstruction). reactive.Instruction r) rows (row ∷ [])))
      (lists.both (row_statements rows) (reactive.Instruction row ∷ []) all one)

  module _ (env : Environment) (uses : LastUses) where
    -- the facts of a list on the way
    record OpenHolds (o : Open) : Type 0 where
      head : ScopeHolds P o.head.own
      number : All P (scope_name o.head.number)
      inside : ListHolds o.inside
      rows : ListHolds (row_statements o.rows)

    abbrev GroupHolds : Option Open → Type 0
    GroupHolds None = Unit {0}
    GroupHolds (Some o) = OpenHolds o

    record GoingHolds (g : Going) : Type 0 where
      long : length g.scopes ≡ length env.scopes
      scopes : ScopesHold g.scopes
      done : ListHolds g.done
      group : GroupHolds g.open_group

    closed_holds : (held : Option Open) (done : List ReactiveStatement) → GroupHolds held → ListHolds done
        → ListHolds (closed held done)
    closed_holds None done group all = all
    closed_holds (Some o) done group all =
        let own = reactive.Scope (block_of o.head.number o.inside) in
        lists.both done (own ∷ row_statements o.rows) all
        (lists.both (own ∷ []) (row_statements o.rows) (block_holds o.head.number o.inside group.number group.inside)
        group.rows)

    back_holds : (held : Option Open) (scopes : List ReactiveScope) → GroupHolds held → ScopesHold scopes
        → ScopesHold (put_back held scopes)
    back_holds None scopes group all = all
    back_holds (Some o) scopes group all = set_holds scopes o.head.number.0 o.head.own all group.head

    back_long : (held : Option Open) (scopes : List ReactiveScope) → length (put_back held scopes) ≡ length scopes
    back_long None scopes = refl
    back_long (Some o) scopes = length-set scopes o.head.number.0 o.head.own

    close_holds : (g : Going) → GoingHolds g → GoingHolds (close g)
    close_holds g holds = record {
      long = back_long g.open_group g.scopes ∙ holds.long;
      scopes = back_holds g.open_group g.scopes holds.group holds.scopes;
      done = closed_holds g.open_group g.done holds.group holds.done;
      group = tt;
    }

    done_holds : (x : ReactiveStatement) (g : Going) → GoingHolds g → ListHolds (x ∷ [])
        → GoingHolds (record g { done = g.done ++ x ∷ [] })
    done_holds x g holds one = record {
      long = holds.long;
      scopes = holds.scopes;
      done = lists.both g.done (x ∷ []) holds.done one;
      group = holds.group;
    }

    passing_holds : (held : Option Open) (row : ReactiveInstruction) (g : Going) → GoingHolds g → GroupHolds held
        → ListHolds (reactive.Instruction row ∷ [])
        → GoingHolds (step_passing env uses held row (record g { open_group = held }))
    passing_holds None row g holds group one = record {
      long = holds.long;
      scopes = holds.scopes;
      done = lists.both g.done (reactive.Instruction row ∷ []) holds.done one;
      group = tt;
    }
    passing_holds (Some o) row g holds group one = record {
      long = holds.long;
      scopes = holds.scopes;
      done = holds.done;
      group = record {
        head = group.head;
        number = group.number;
        inside = group.inside;
        rows = rows_hold o.rows row group.rows one;
      };
    }

    row_holds : (passes : Bool) (row : ReactiveInstruction) (g : Going) → GoingHolds g
        → ListHolds (reactive.Instruction row ∷ []) → GoingHolds (step_row env uses passes row g)
    row_holds true row g holds one = passing_holds g.open_group row g holds holds.group one
    row_holds false row g holds one = done_holds (reactive.Instruction row) (close g) (close_holds g holds) one

    begin_holds : (opens : Bool) (block : ReactiveScopeBlock) (g : Going) → GoingHolds g
        → ListHolds (reactive.Scope block ∷ []) → GoingHolds (begin_if env uses opens block g)
    begin_holds false block g holds one = done_holds (reactive.Scope block) g holds one
    begin_holds true block g holds one = record {
      long = length-set g.scopes block.scope.0 no_scope ∙ holds.long;
      scopes = set_holds g.scopes block.scope.0 no_scope holds.scopes (All-nil P);
      done = holds.done;
      group = record {
        head = each_holds P g.scopes holds.scopes block.scope;
        number = number_holds block one;
        inside = lists.inside block one;
        rows = lists.nothing;
      };
    }

    stay_holds : (opens : Bool) (g : Going) → GoingHolds g → GoingHolds (stay_if env uses opens g)
    stay_holds true g holds = holds
    stay_holds false g holds = close_holds g holds

    join_holds : (joins opens : Bool) (o : Open) (block : ReactiveScopeBlock) (g : Going) → GoingHolds g → OpenHolds o
        → ListHolds (reactive.Scope block ∷ [])
        → GoingHolds (join_if env uses joins opens o block (record g { open_group = Some o }))
    join_holds true opens o block g holds group one =
        let next = scope_at g.scopes block.scope in
        stay_holds opens (taken_in env uses true (grown_if env uses true o next) block
        (told env uses o block (record g { open_group = Some o })))
        (record {
          long = holds.long;
          scopes = holds.scopes;
          done = holds.done;
          group = record {
            head = grown_holds P env uses o.head next group.head (each_holds P g.scopes holds.scopes block.scope)
                (number_holds block one);
            number = group.number;
            inside = lists.both (o.inside ++ row_statements o.rows) block.instructions.statements
                (lists.both o.inside (row_statements o.rows) group.inside group.rows) (lists.inside block one);
            rows = lists.nothing;
          };
        })
    join_holds false opens o block g holds group one =
        begin_holds opens block (close (record g { open_group = Some o }))
        (close_holds (record g { open_group = Some o }) (record {
          long = holds.long;
          scopes = holds.scopes;
          done = holds.done;
          group = group;
        })) one

    scope_holds : (held : Option Open) (block : ReactiveScopeBlock) (g : Going) → GoingHolds g → GroupHolds held
        → ListHolds (reactive.Scope block ∷ [])
        → GoingHolds (step_scope env uses held block (record g { open_group = held }))
    scope_holds None block g holds group one =
        begin_holds (begins env (scope_at g.scopes block.scope).own) block (record g { open_group = None })
        (record { long = holds.long; scopes = holds.scopes; done = holds.done; group = tt }) one
    scope_holds (Some o) block g holds group one =
        join_holds (joins_open env uses g.copies o (scope_at g.scopes block.scope))
        (begins env (scope_at g.scopes block.scope).own) o block g holds group one

    step_holds : (u : UnrolledStatement) (g : Going) → GoingHolds g → ListHolds (roll-ReactiveStatement u ∷ [])
        → GoingHolds (step env uses g u)
    step_holds (layer.Instruction row) g holds one = row_holds (row_passes row) row g holds
        (subst (λ x. ListHolds (x ∷ [])) (reactive.rolls-Instruction row) one)
    step_holds (layer.Terminal x) g holds one =
        done_holds (roll-ReactiveStatement (layer.Terminal x)) (close g) (close_holds g holds) one
    step_holds (layer.PrunedScope x) g holds one =
        done_holds (roll-ReactiveStatement (layer.PrunedScope x)) (close g) (close_holds g holds) one
    step_holds (layer.Scope block) g holds one = scope_holds g.open_group block g holds holds.group
        (subst (λ x. ListHolds (x ∷ [])) (reactive.rolls-Scope block) one)

    steps_hold : (us : List UnrolledStatement) (g : Going) → GoingHolds g
        → ListHolds (map roll-ReactiveStatement us) → GoingHolds (steps env uses g us)
    steps_hold [] g holds all = holds
    steps_hold (u ∷ us) g holds all =
        steps_hold us (step env uses g u)
        (step_holds u g holds (lists.first (roll-ReactiveStatement u) (map roll-ReactiveStatement us) all))
        (lists.rest (roll-ReactiveStatement u) (map roll-ReactiveStatement us) all)

    -- the facts of the states of the pass
    record Stays (met : Met) : Type 0 where
      long : length met.scopes ≡ length env.scopes
      scopes : ScopesHold met.scopes

    went_holds : (xs : List ReactiveStatement) (met : Met) → Stays met → ListHolds xs
        → GoingHolds (went_list env uses xs met)
    went_holds xs met stays all =
        let start = starting env uses met.scopes met.copies met.log in
        close_holds (steps env uses start (map out-ReactiveStatement xs))
        (steps_hold (map out-ReactiveStatement xs) start
        (record { long = stays.long; scopes = stays.scopes; done = lists.nothing; group = tt })
        (subst ListHolds (sym (rolled_back xs)) all))

    abbrev IsKept : Met × List ReactiveStatement → Type 0
    IsKept r = Stays r.0 × ListHolds r.1

    gone_kept : (gives : Bool) (parent : ScopeId) (block : ReactiveScopeBlock) (met : Met) → Stays met
        → ListHolds (reactive.Scope block ∷ []) → IsKept (gone_if gives parent block met)
    gone_kept true parent block met stays one =
        (record { long = stays.long; scopes = stays.scopes }, lists.inside block one)
    gone_kept false parent block met stays one = (record { long = stays.long; scopes = stays.scopes }, one)

    left_kept : (around : Option ScopeId) (block : ReactiveScopeBlock) (met : Met) → Stays met
        → ListHolds (reactive.Scope block ∷ []) → IsKept (left_scope env uses around block met)
    left_kept None block met stays one = (record { long = stays.long; scopes = stays.scopes }, one)
    left_kept (Some parent) block met stays one =
        gone_kept (gives_way env uses met.scopes parent block.scope) parent block met stays one

    keeps : KeepsFacts (went_rules env uses) Stays (PartHolds P) names_of_parts
    keeps = record {
      nothing = (of_parts P).nothing;
      both = (of_parts P).both;
      first = (of_parts P).first;
      second = (of_parts P).second;
      inside = (of_parts P).inside;
      inside_pruned = (of_parts P).inside_pruned;
      into_scope = λ of met stays. record { long = stays.long; scopes = stays.scopes };
      row = λ x met stays k. (stays, subst (All P) (sym (alone-Instruction names_of_parts lists_monoid x)) k);
      terminal = λ x met stays k. (stays, subst (All P) (sym (alone-Terminal names_of_parts lists_monoid x)) k);
      scope = λ of x inside before met first stays k j.
          let block : ReactiveScopeBlock = record { scope = of; instructions = inside } in
          left_kept before.around block met stays
          (subst (All P) (sym (alone-Scope names_of_parts lists_monoid block))
          ((of_parts P).around of x (names_in inside) k j));
      pruned_scope = λ of x inside met stays k j.
          let block : PrunedReactiveScopeBlock = record { scope = of; instructions = inside } in (
            stays,
            subst (All P) (sym (alone-PrunedScope names_of_parts lists_monoid block))
                ((of_parts P).around_pruned of x (names_in inside) k j),
          );
      block = λ xs met stays k.
          let went = went_holds xs met stays k in
          (record { long = went.long; scopes = went.scopes }, went.done);
    }

-- numbers of the tree and of the environment that are in their tables stay there
pub known_by_went : (old new : ReactiveFunction) (env after : Environment) (uses : LastUses)
    (merged : Option (List MergedFacts)) (ended : Met)
    → new ≡ record old { body = new.body }
    → rebuilt_block (went_rules env uses) old.body (none_met env.scopes merged) ≡ Ok (ended, new.body)
    → after ≡ record env { scopes = ended.scopes } → TreeInTables old env → TreeInTables new after
known_by_went old new env after uses merged ended header is environment known =
    let P = IsInTable (lengths env 0) in
    let start : Stays P env uses (none_met env.scopes merged) =
    record { long = refl; scopes = scopes_known env known.environment } in
    let facts = rebuilt_facts (went_rules env uses) (Stays P env uses) (PartHolds P) names_of_parts lists_monoid
    (keeps P env uses) old.body (none_met env.scopes merged) ended new.body is known.body start in
    let same : ended.scopes ≡ after.scopes = sym (ap (λ (e : Environment). e.scopes) environment) in
    tables_known env after (environment ∙ ap (λ scopes. record env { scopes = scopes }) same)
    (ap (λ (scopes : List ReactiveScope). length scopes) (sym same) ∙ facts.0.long)
    (subst (λ scopes. All P (flat_map scope_names scopes)) same facts.0.scopes) old new header known facts.1

-- so do the numbers of a graph
pub names_by_went : (old new : ReactiveFunction) (env after : Environment) (uses : LastUses)
    (merged : Option (List MergedFacts)) (ended : Met)
    → rebuilt_block (went_rules env uses) old.body (none_met env.scopes merged) ≡ Ok (ended, new.body)
    → after ≡ record env { scopes = ended.scopes } → TreeInTables old env
    → (graph : HirFunction) → NamesInTables graph env → NamesInTables graph after
names_by_went old new env after uses merged ended is environment known graph names =
    let P = IsInTable (lengths env 0) in
    let start : Stays P env uses (none_met env.scopes merged) =
    record { long = refl; scopes = scopes_known env known.environment } in
    let facts = rebuilt_facts (went_rules env uses) (Stays P env uses) (PartHolds P) names_of_parts lists_monoid
    (keeps P env uses) old.body (none_met env.scopes merged) ended new.body is known.body start in
    let same : ended.scopes ≡ after.scopes = sym (ap (λ (e : Environment). e.scopes) environment) in
    graph_known env after (environment ∙ ap (λ scopes. record env { scopes = scopes }) same)
    (ap (λ (scopes : List ReactiveScope). length scopes) (sym same) ∙ facts.0.long)
    (subst (λ scopes. All P (flat_map scope_names scopes)) same facts.0.scopes) graph names

-- there are as many scopes as before
pub long_by_went : (env : Environment) (uses : LastUses) (merged : Option (List MergedFacts))
    (before after : ReactiveBlock) (ended : Met)
    → rebuilt_block (went_rules env uses) before (none_met env.scopes merged) ≡ Ok (ended, after)
    → length ended.scopes ≡ length env.scopes
long_by_went env uses merged before after ended is =
    let Any : Name → Type 0 = λ name. Unit {0} in
    let start : Stays Any env uses (none_met env.scopes merged) =
    record { long = refl; scopes = λ place other below. tt } in
    let facts = rebuilt_facts (went_rules env uses) (Stays Any env uses) (PartHolds Any) names_of_parts lists_monoid
    (keeps Any env uses) before (none_met env.scopes merged) ended after is (λ place other below. tt) start in
    facts.0.long
