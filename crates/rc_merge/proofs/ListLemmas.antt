-- One open group gives what the definition by places gives.
use Rattle.std.proofs.Common.{◌≡◌, ◌∙◌, List, [], ◌∷◌, ◌++◌, Option, None, Some, Bool, true, false, refl, sym}
use Rattle.std.proofs.Common.{ap, append_assoc, map, option_map, subst}
use Rattle.std.proofs.lemmas.List.{append-nil, map-append}
use Rattle.std.specs.Option.{option_map_or}
use Rattle.std.specs.Prelude.{slice_set, if◌then◌else◌}
use Rattle.rc_hir.specs.Model.{Environment, ReactiveScope}
use Rattle.rc_names.specs.Numbers.{ScopeId}
use Rattle.rc_merge.proofs.Elements.{In, here, there}
use Rattle.rc_merge.proofs.GroupsHold.{own_at}
use Rattle.rc_merge.proofs.RestLemmas.{none_pulled}
use Rattle.rc_merge.proofs.RowsLemmas.{IsItemOf, passing, ending, noted_copies, seen, value_item}
use Rattle.rc_merge.proofs.WholeLists.{begins_whole, closed_whole, own_other, set_again, set_own, swallowed_whole}
use Rattle.rc_merge.proofs.WholeLists.{waits_whole, whole, whole_open}
use Rattle.rc_merge.specs.Explained.{Joined, joined_by, joined_in}
use Rattle.rc_merge.specs.Groups.{copies_at, group_at, head_after, head_at, joins_at, joins_if, names_at, notes}
use Rattle.rc_merge.specs.Joining.{Copies, begins, grown, joins, with_copy}
use Rattle.rc_merge.specs.LastUses.{LastUses}
use Rattle.rc_merge.specs.MergedList.{Rest, filled, joined_at, merged_list, met_block, passed_over, pulled_of, rest_at}
use Rattle.rc_merge.specs.MergedList.{rest_by, scopes_after, scopes_at, told_of}
use Rattle.rc_merge.specs.Places.{Item, Passed, Block, Other, NumberedScope, item_of, items_before, items_of, no_scope}
use Rattle.rc_merge.specs.Places.{scope_at}
use Rattle.rc_merge.specs.declared.facts.MergedFacts.{MergedFacts}
use Rattle.rc_merge.specs.declared.tables.Log.{Log}
use Rattle.rc_merge.specs.inside.ListSteps.{Going, Open, begin_if, block_of, close, closed, join_if}
use Rattle.rc_merge.specs.inside.ListSteps.{joined_open, joins_open, merged_fate, put_back, row_statements}
use Rattle.rc_merge.specs.inside.ListSteps.{starting, step}
use Rattle.rc_merge.specs.inside.ListSteps.{step_other, step_passing, step_row, step_scope, steps}
use Rattle.rc_merge.specs.inside.ListSteps.{told_open, went, with_fate}
use Rattle.rc_merge.specs.inside.Rows.{CopyPairs, copies_of, copy_of_row, row_passes}
use Rattle.rc_merge.specs.inside.Told.{facts_of}
use Rattle.rc_tree.specs.Unrolled.{UnrolledStatement}
use Rattle.rc_tree.specs.Model.{ReactiveInstruction, ReactiveScopeBlock, ReactiveStatement}
use Rattle.rc_tree.specs.declared.fate.ScopeFate.{ScopeFate}
use Rattle.rc_tree.specs.declared.statement.ReactiveStatement.{roll-ReactiveStatement}
use Rattle.rc_tree.specs.declared.statement.ReactiveStatement.TheOpen as layer
use Rattle.rc_tree.specs.declared.statement.ReactiveStatement.TheVariants as reactive

-- the scopes of the scope blocks that a list itself has
abbrev pub blocks_in : List UnrolledStatement → List ScopeId
blocks_in [] = []
blocks_in (layer.Scope block ∷ us) = block.scope ∷ blocks_in us
blocks_in (_ ∷ us) = blocks_in us

-- no scope twice
abbrev pub AreOnce : List ScopeId → Type 0
AreOnce [] = Unit {0}
AreOnce (scope ∷ scopes) = (In scope scopes → ⊥) × AreOnce scopes

-- one scope more whose facts are told
told_more : (tell : Joined → MergedFacts) (merged : Option (List MergedFacts)) (joined : List Joined) (one : Joined)
    → option_map (λ told. told ++ tell one ∷ []) (option_map (λ told. told ++ map tell joined) merged)
    ≡ option_map (λ told. told ++ map tell (joined ++ one ∷ [])) merged
told_more tell None joined one = refl
told_more tell (Some told) joined one = ap Some (append_assoc told (map tell joined) (tell one ∷ [])
    ∙ ap (λ more. told ++ more) (sym (map-append tell joined (one ∷ []))))

none_told : (merged : Option (List MergedFacts)) → merged ≡ option_map (λ told. told ++ []) merged
none_told None = refl
none_told (Some told) = ap Some (sym (append-nil told))

module _ (env : Environment) (uses : LastUses) (scopes : List ReactiveScope) (pairs : CopyPairs) (log : Log) where
  abbrev start : Copies
  start = copies_of pairs

  abbrev table : List Item → List ReactiveScope
  table = scopes_at env uses start scopes

  abbrev head_here : List Item → Option NumberedScope
  head_here = head_at env uses start

  abbrev rest_here : List UnrolledStatement → List Item → Rest
  rest_here = rest_at env uses start scopes

  abbrev joined_here : List Item → List Joined
  joined_here = joined_in env uses start

  -- the log with these fates and the facts of these scopes
  abbrev log_with : List ScopeFate → List Joined → Log
  log_with fates joined = record {
    fates = log.fates ++ fates;
    merged = option_map (λ told. told ++ map (facts_of env uses) joined) log.merged;
  }

  -- the log after the items
  abbrev logged : List Item → Log
  logged before = log_with (joined_at env uses start scopes before) (joined_here before)

  abbrev item : UnrolledStatement → Item
  item = item_of env scopes

  -- the open group is the head by places, which is out of its place
  record IsOpen (before : List Item) (ahead : List ScopeId) (now : List ReactiveScope) (o : Open) : Type 0 where
    head : head_here before ≡ Some o.head
    names : o.names ≡ names_at before
    put : slice_set now o.head.number.0 o.head.own ≡ table before
    apart : In o.head.number ahead → ⊥

  abbrev OpenFits : List Item → List ScopeId → List ReactiveScope → Option Open → Type 0
  OpenFits before ahead now None = (head_here before ≡ None) × (now ≡ table before)
  OpenFits before ahead now (Some o) = IsOpen before ahead now o

  -- the scopes that lie ahead are as they were
  abbrev Ahead : List Item → List ScopeId → Type 0
  Ahead before ahead = (n : ScopeId) → In n ahead → own_at (table before) n ≡ own_at scopes n

  record Fits (before : List Item) (ahead : List ScopeId) (g : Going) : Type 0 where
    group : OpenFits before ahead g.scopes g.open_group
    copies : copies_of g.copies ≡ copies_at env uses start before
    told : g.log ≡ logged before

  -- rows are noted exactly where there is a head
  notes_none : (before : List Item) → head_here before ≡ None → notes env uses before ≡ false
  notes_none [] e = refl
  notes_none (Passed row ∷ before) e = notes_none before e
  notes_none (Other ∷ before) e = refl
  notes_none (Block scope ∷ before) e = by (begins env scope.own) e
    where
      by : (b : Bool) → (if b then Some (group_at env uses start before scope) else None) ≡ None → b ≡ false
      by true e = let bad : ⊥ = cc in absurd bad
      by false e = refl

  notes_some : (before : List Item) (head : NumberedScope) → head_here before ≡ Some head
      → notes env uses before ≡ true
  notes_some [] head e = let bad : ⊥ = cc in absurd bad
  notes_some (Passed row ∷ before) head e = notes_some before head e
  notes_some (Other ∷ before) head e = let bad : ⊥ = cc in absurd bad
  notes_some (Block scope ∷ before) head e = by (begins env scope.own) e
    where
      by : (b : Bool) → (if b then Some (group_at env uses start before scope) else None) ≡ Some head → b ≡ true
      by true e = refl
      by false e = let bad : ⊥ = cc in absurd bad

  -- one step
  record Stepped (before : List Item) (u : UnrolledStatement) (it : Item) (us : List UnrolledStatement) (g after : Going) :
      Type 0 where
    fits : Fits (it ∷ before) (blocks_in us) after
    ahead : Ahead (it ∷ before) (blocks_in us)
    same : whole after.open_group after.done (rest_here us (it ∷ before))
        ≡ whole g.open_group g.done (rest_by env uses start scopes it u before (rest_here us (it ∷ before)))

  passed_step : (before : List Item) (row : ReactiveInstruction) (us : List UnrolledStatement) (g : Going)
      → Fits before (blocks_in us) g → Ahead before (blocks_in us)
      → Stepped before (layer.Instruction row) (Passed (seen env row.lvalue row.value)) us g
      (step_passing env uses g.open_group row g)
  passed_step before row us g fits ahead = by g.open_group fits.group
    where
      it : Item
      it = Passed (seen env row.lvalue row.value)

      rest : Rest
      rest = rest_here us (it ∷ before)

      by : (held : Option Open) → OpenFits before (blocks_in us) g.scopes held
          → Stepped before (layer.Instruction row) it us (record g { open_group = held })
          (step_passing env uses held row (record g { open_group = held }))
      by None group = record {
        fits = record {
          group = group;
          copies = fits.copies ∙ ap (λ b. if b then with_copy (copies_at env uses start before)
              (copy_of_row env row) else copies_at env uses start before) (sym (notes_none before group.0));
          told = fits.told;
        };
        ahead = ahead;
        same = append_assoc g.done (reactive.Instruction row ∷ []) rest.staying
            ∙ ap (λ pulled. g.done ++ (passed_over (reactive.Instruction row) pulled rest.staying).staying)
            (sym (none_pulled env uses start scopes us (it ∷ before) group.0))
            ∙ ap (λ x. g.done ++ (passed_over x rest.pulled rest.staying).staying) (sym (reactive.rolls-Instruction row));
      }
      by (Some o) group = record {
        fits = record {
          group = record {
            head = group.head;
            names = ap (λ l. l ++ (seen env row.lvalue row.value).names) group.names;
            put = group.put;
            apart = group.apart;
          };
          copies = noted_copies g.copies (copy_of_row env row)
              ∙ ap (λ copies. with_copy copies (copy_of_row env row)) fits.copies
              ∙ ap (λ b. if b then with_copy (copies_at env uses start before)
              (copy_of_row env row) else copies_at env uses start before) (sym (notes_some before o.head group.head));
          told = fits.told;
        };
        ahead = ahead;
        same = waits_whole o (o.names ++ (seen env row.lvalue row.value).names) row g.done rest
            ∙ ap (λ x. whole (Some o) g.done (passed_over x rest.pulled rest.staying))
            (sym (reactive.rolls-Instruction row));
      }

  -- where the group is closed, the scopes are those of the place
  put_back_fits : (before : List Item) (ahead : List ScopeId) (now : List ReactiveScope) (held : Option Open)
      → OpenFits before ahead now held → put_back held now ≡ table before
  put_back_fits before ahead now None group = group.1
  put_back_fits before ahead now (Some o) group = group.put

  other_step : (before : List Item) (u : UnrolledStatement) (x : ReactiveStatement) (us : List UnrolledStatement)
      (g : Going) → Fits before (blocks_in us) g → Ahead before (blocks_in us)
      → rest_by env uses start scopes Other u before (rest_here us (Other ∷ before))
      ≡ record { pulled = None; staying = x ∷ (rest_here us (Other ∷ before)).staying }
      → Stepped before u Other us g (step_other env uses x g)
  other_step before u x us g fits ahead is = record {
    fits = record {
      group = (refl, put_back_fits before (blocks_in us) g.scopes g.open_group fits.group);
      copies = fits.copies;
      told = fits.told;
    };
    ahead = ahead;
    same = append_assoc (closed g.open_group g.done) (x ∷ []) (rest_here us (Other ∷ before)).staying
        ∙ closed_whole g.open_group g.done (x ∷ (rest_here us (Other ∷ before)).staying)
        ∙ ap (whole g.open_group g.done) (sym is);
  }

  row_step : (before : List Item) (row : ReactiveInstruction) (us : List UnrolledStatement) (g : Going)
      → Fits before (blocks_in us) g → Ahead before (blocks_in us) → (passes : Bool) (it : Item) → IsItemOf env row.lvalue row.value passes it
      → Stepped before (layer.Instruction row) it us g (step_row env uses passes row g)
  row_step before row us g fits ahead true _ passing = passed_step before row us g fits ahead
  row_step before row us g fits ahead false _ ending =
      other_step before (layer.Instruction row) (reactive.Instruction row) us g fits ahead
      (ap (λ x. record { pulled = None; staying = x ∷ (rest_here us (Other ∷ before)).staying })
      (reactive.rolls-Instruction row))

  -- a scope block
  module _ (before : List Item) (block : ReactiveScopeBlock) (us : List UnrolledStatement)
      (once : In block.scope (blocks_in us) → ⊥) (ahead : Ahead before (block.scope ∷ blocks_in us)) where
    abbrev scope : NumberedScope
    scope = scope_at scopes block.scope

    abbrev next : List Item
    next = Block scope ∷ before

    abbrev group : NumberedScope
    group = group_at env uses start before scope

    abbrev rest : Rest
    rest = rest_here us next

    abbrev joining : Bool
    joining = joins_at env uses start before scope

    -- the head after the block
    head_if : (opens : Bool) → begins env scope.own ≡ opens → head_here next ≡ (if opens then Some group else None)
    head_if opens is = ap (λ b. if b then Some group else None) is

    group_if : (joined : Bool) → joining ≡ joined → group ≡ head_after env uses joined (head_here before) scope
    group_if joined is = ap (λ b. head_after env uses b (head_here before) scope) is

    table_if : (joined : Bool) → joining ≡ joined
        → scopes_after env uses start scopes joined group (table before) ≡ table next
    table_if joined is = ap (λ b. scopes_after env uses start scopes b group (table before)) (sym is)

    told_if : (joined : Bool) → joining ≡ joined
        → joined_at env uses start scopes before ++ told_of env uses start scopes joined scope group
        ≡ joined_at env uses start scopes next
    told_if joined is = ap (λ b. joined_at env uses start scopes before ++ told_of env uses start scopes b scope group)
        (sym is)

    joined_if : (joined : Bool) → joining ≡ joined
        → joined_here before ++ joined_by env uses joined (head_here before) scope (names_at before)
        (copies_at env uses start before) ≡ joined_here next
    joined_if joined is = ap (λ b. joined_here before ++ joined_by env uses b (head_here before) scope (names_at before)
        (copies_at env uses start before)) (sym is)

    -- the scopes ahead are as they were, where none joins
    ahead_apart : joining ≡ false → Ahead next (blocks_in us)
    ahead_apart is n m = ap (λ t. own_at t n) (sym (table_if false is)) ∙ ahead n (there m)

    -- a block that joins none: it begins a group, or is done
    begin_step : (opens : Bool) → begins env scope.own ≡ opens → joining ≡ false → (g : Going) (done : List ReactiveStatement)
        (now : List ReactiveScope) (copies : CopyPairs) (told : Log) → now ≡ table before
        → copies_of copies ≡ copies_at env uses start before
        → told ≡ logged before
        → done ++ reactive.Scope (filled block (pulled_of rest)) ∷ rest.staying
        ≡ whole g.open_group g.done (met_block false block rest)
        → Stepped before (layer.Scope block) (Block scope) us g (begin_if env uses opens block
        (record { done = done; open_group = None; scopes = now; copies = copies; log = told }))
    begin_step opens is apart g done now copies told same_table same_copies same_told same = record {
      fits = record {
        group = fits opens is;
        copies = copied opens;
        told = told_now opens;
      };
      ahead = ahead_apart apart;
      same = put opens is ∙ same ∙ ap (λ b. whole g.open_group g.done (met_block b block rest)) (sym apart);
    }
      where
        after : Bool → Going
        after b = begin_if env uses b block
            (record { done = done; open_group = None; scopes = now; copies = copies; log = told })

        here_own : own_at now block.scope ≡ scope.own
        here_own = ap (λ t. own_at t block.scope) same_table ∙ ahead block.scope here

        fits : (b : Bool) → begins env scope.own ≡ b → OpenFits next (blocks_in us) (after b).scopes (after b).open_group
        fits true e = record {
          head = head_if true e ∙ ap Some (group_if false apart
              ∙ ap (λ own. record { number = block.scope; own = own }) (sym here_own));
          names = refl;
          put = set_again now block.scope.0 no_scope (own_at now block.scope) ∙ set_own now block.scope.0 ∙ same_table
              ∙ table_if false apart;
          apart = once;
        }
        fits false e = (head_if false e, same_table ∙ table_if false apart)

        copied : (b : Bool) → copies_of (after b).copies ≡ copies_at env uses start next
        copied true = same_copies
        copied false = same_copies

        told_all : told ≡ logged next
        told_all = same_told ∙ (λ i. log_with
            ((sym (append-nil (joined_at env uses start scopes before)) ∙ told_if false apart) i)
            ((sym (append-nil (joined_here before)) ∙ joined_if false apart) i))

        told_now : (b : Bool) → (after b).log ≡ logged next
        told_now true = told_all
        told_now false = told_all

        put : (b : Bool) → begins env scope.own ≡ b → whole (after b).open_group (after b).done rest
            ≡ done ++ reactive.Scope (filled block (pulled_of rest)) ∷ rest.staying
        put true e = begins_whole (scope_at now block.scope) block.instructions.statements done rest
        put false e = append_assoc done (reactive.Scope block ∷ []) rest.staying
            ∙ ap (λ l. done ++ reactive.Scope (block_of block.scope l) ∷ rest.staying)
            (sym (append-nil block.instructions.statements)
            ∙ ap (λ pulled. block.instructions.statements ++ option_map_or (λ l. l) pulled [])
            (sym (none_pulled env uses start scopes us next (head_if false e))))

    -- where no group is open
    alone_step : (g : Going) → head_here before ≡ None → g.scopes ≡ table before
        → copies_of g.copies ≡ copies_at env uses start before
        → g.log ≡ logged before
        → Stepped before (layer.Scope block) (Block scope) us (record g { open_group = None })
        (step_scope env uses None block (record g { open_group = None }))
    alone_step g none same_table same_copies same_told =
        subst (λ own. Stepped before (layer.Scope block) (Block scope) us (record g { open_group = None })
        (begin_if env uses (begins env own) block (record g { open_group = None }))) (sym here_own)
        (begin_step (begins env scope.own) refl
        (ap (λ head. joins_if env uses (copies_at env uses start before) head (names_at before) scope) none)
        (record g { open_group = None }) g.done g.scopes g.copies g.log same_table same_copies same_told refl)
      where
        here_own : own_at g.scopes block.scope ≡ scope.own
        here_own = ap (λ t. own_at t block.scope) same_table ∙ ahead block.scope here

    -- where a group is open
    module _ (g : Going) (o : Open) (is_open : IsOpen before (block.scope ∷ blocks_in us) g.scopes o)
        (same_copies : copies_of g.copies ≡ copies_at env uses start before)
        (same_told : g.log ≡ logged before) where
      abbrev before_step : Going
      before_step = record g { open_group = Some o }

      here_own : own_at g.scopes block.scope ≡ scope.own
      here_own =
          sym (own_other g.scopes o.head.number block.scope o.head.own
          (λ e. is_open.apart (subst (λ n. In n (block.scope ∷ blocks_in us)) e here)))
          ∙ ap (λ t. own_at t block.scope) is_open.put ∙ ahead block.scope here

      here_scope : scope_at g.scopes block.scope ≡ scope
      here_scope = ap (λ own. record { number = block.scope; own = own }) here_own

      same_joins : joins_open env uses g.copies o (scope_at g.scopes block.scope) ≡ joining
      same_joins = (λ i. joins env uses (same_copies i) o.head.own (is_open.names i) (here_own i))
          ∙ ap (λ head. joins_if env uses (copies_at env uses start before) head (names_at before) scope)
          (sym is_open.head)

      -- the head as grown, in the group with the block
      abbrev head_now : NumberedScope
      head_now = grown env uses o.head (scope_at g.scopes block.scope)

      abbrev inside_now : List ReactiveStatement
      inside_now = (o.inside ++ row_statements o.rows) ++ block.instructions.statements

      grown_group : joining ≡ true → group ≡ head_now
      grown_group is = group_if true is ∙ ap (λ head. head_after env uses true head scope) is_open.head
          ∙ ap (grown env uses o.head) (sym here_scope)

      grown_table : joining ≡ true → slice_set g.scopes o.head.number.0 head_now.own ≡ table next
      grown_table is = sym (set_again g.scopes o.head.number.0 o.head.own head_now.own)
          ∙ ap (λ t. slice_set t o.head.number.0 head_now.own) is_open.put
          ∙ ap (λ (head : NumberedScope). slice_set (table before) head.number.0 head.own) (sym (grown_group is))
          ∙ table_if true is

      grown_ahead : joining ≡ true → Ahead next (blocks_in us)
      grown_ahead is n m =
          ap (λ t. own_at t n) (sym (table_if true is)
          ∙ ap (λ (head : NumberedScope). slice_set (table before) head.number.0 head.own) (grown_group is))
          ∙ own_other (table before) o.head.number n head_now.own
          (λ e. is_open.apart (there (subst (λ k. In k (blocks_in us)) e m)))
          ∙ ahead n (there m)

      grown_fates : joining ≡ true
          → joined_at env uses start scopes before ++ merged_fate block.scope o.head.number ∷ []
          ≡ joined_at env uses start scopes next
      grown_fates is = ap (λ (head : NumberedScope). joined_at env uses start scopes before
          ++ merged_fate block.scope head.number ∷ []) (sym (grown_group is)) ∙ told_if true is

      -- the scope that joins, as the code has it
      abbrev joined_now : Joined
      joined_now = joined_open g.copies o (scope_at g.scopes block.scope)

      grown_joined : joining ≡ true → joined_here before ++ joined_now ∷ [] ≡ joined_here next
      grown_joined is = (λ i. joined_here before
          ++ record { head = o.head; next = here_scope i; names = is_open.names i; copies = same_copies i } ∷ [])
          ∙ (λ i. joined_here before ++ joined_by env uses true (sym is_open.head i) scope (names_at before)
          (copies_at env uses start before))
          ∙ joined_if true is

      grown_told : joining ≡ true
          → with_fate (merged_fate block.scope o.head.number)
          (told_open env uses g.copies o (scope_at g.scopes block.scope) g.log) ≡ logged next
      grown_told is =
          ap (λ l. with_fate (merged_fate block.scope o.head.number)
          (told_open env uses g.copies o (scope_at g.scopes block.scope) l)) same_told
          ∙ (λ i. record {
            fates = append_assoc log.fates (joined_at env uses start scopes before)
                (merged_fate block.scope o.head.number ∷ []) i;
            merged = told_more (facts_of env uses) log.merged (joined_here before) joined_now i;
          })
          ∙ (λ i. log_with (grown_fates is i) (grown_joined is i))

      grown_whole : g.done ++ reactive.Scope (block_of o.head.number (inside_now ++ pulled_of rest)) ∷ rest.staying
          ≡ whole (Some o) g.done (met_block true block rest)
      grown_whole = swallowed_whole o block g.done rest

      taken_step : (opens : Bool) → begins env scope.own ≡ opens → joining ≡ true
          → Stepped before (layer.Scope block) (Block scope) us before_step
          (join_if env uses true opens o block before_step)
      taken_step true opens is = record {
        fits = record {
          group = record {
            head = head_if true opens ∙ ap Some (grown_group is);
            names = refl;
            put = grown_table is;
            apart = λ m. is_open.apart (there m);
          };
          copies = same_copies;
          told = grown_told is;
        };
        ahead = grown_ahead is;
        same = begins_whole head_now inside_now g.done rest ∙ grown_whole
            ∙ ap (λ b. whole (Some o) g.done (met_block b block rest)) (sym is);
      }
      taken_step false opens is = record {
        fits = record {
          group = (head_if false opens, grown_table is);
          copies = same_copies;
          told = grown_told is;
        };
        ahead = grown_ahead is;
        same = closed_whole (Some (record { head = head_now; inside = inside_now; rows = []; names = [] })) g.done
            rest.staying
            ∙ ap (λ pulled. whole_open (record { head = head_now; inside = inside_now; rows = []; names = [] }) g.done
            pulled rest.staying) (sym (none_pulled env uses start scopes us next (head_if false opens)))
            ∙ begins_whole head_now inside_now g.done rest ∙ grown_whole
            ∙ ap (λ b. whole (Some o) g.done (met_block b block rest)) (sym is);
      }

      join_step : (joined : Bool) → joining ≡ joined → Stepped before (layer.Scope block) (Block scope) us before_step
          (join_if env uses joined (begins env scope.own) o block before_step)
      join_step true is = taken_step (begins env scope.own) refl is
      join_step false is =
          begin_step (begins env scope.own) refl is before_step (closed (Some o) g.done)
          (slice_set g.scopes o.head.number.0 o.head.own) g.copies g.log is_open.put same_copies same_told
          (closed_whole (Some o) g.done (reactive.Scope (filled block (pulled_of rest)) ∷ rest.staying))

      scope_open_step : Stepped before (layer.Scope block) (Block scope) us before_step
          (step_scope env uses (Some o) block before_step)
      scope_open_step = subst (Stepped before (layer.Scope block) (Block scope) us before_step)
          (sym (λ i. join_if env uses (same_joins i) (begins env (here_own i)) o block before_step))
          (join_step joining refl)

    scope_step : (g : Going) → Fits before (block.scope ∷ blocks_in us) g
        → Stepped before (layer.Scope block) (Block scope) us g (step_scope env uses g.open_group block g)
    scope_step g fits = by g.open_group fits.group
      where
        by : (held : Option Open) → OpenFits before (block.scope ∷ blocks_in us) g.scopes held
            → Stepped before (layer.Scope block) (Block scope) us (record g { open_group = held })
            (step_scope env uses held block (record g { open_group = held }))
        by None none = alone_step g none.0 none.1 fits.copies fits.told
        by (Some o) is_open = scope_open_step g o is_open fits.copies fits.told

  any_step : (before : List Item) (u : UnrolledStatement) (us : List UnrolledStatement) (g : Going)
      → AreOnce (blocks_in (u ∷ us)) → Ahead before (blocks_in (u ∷ us)) → Fits before (blocks_in (u ∷ us)) g
      → Stepped before u (item u) us g (step env uses g u)
  any_step before (layer.Instruction row) us g once ahead fits =
      row_step before row us g fits ahead (row_passes row) (item (layer.Instruction row))
      (value_item env row.lvalue row.value)
  any_step before (layer.Terminal x) us g once ahead fits =
      other_step before (layer.Terminal x) (roll-ReactiveStatement (layer.Terminal x)) us g fits ahead refl
  any_step before (layer.PrunedScope x) us g once ahead fits =
      other_step before (layer.PrunedScope x) (roll-ReactiveStatement (layer.PrunedScope x)) us g fits ahead refl
  any_step before (layer.Scope block) us g once ahead fits = scope_step before block us once.0 ahead g fits

  once_rest : (u : UnrolledStatement) (us : List UnrolledStatement) → AreOnce (blocks_in (u ∷ us))
      → AreOnce (blocks_in us)
  once_rest (layer.Instruction row) us once = once
  once_rest (layer.Terminal x) us once = once
  once_rest (layer.PrunedScope x) us once = once
  once_rest (layer.Scope block) us once = once.1

  -- the end of a list
  record Ended (before : List Item) (us : List UnrolledStatement) (g after : Going) : Type 0 where
    list : after.done ≡ whole g.open_group g.done (rest_here us before)
    table : after.scopes ≡ table (items_before env scopes us before)
    copies : copies_of after.copies ≡ copies_at env uses start (items_before env scopes us before)
    told : after.log ≡ logged (items_before env scopes us before)

  ends : (us : List UnrolledStatement) (before : List Item) (g : Going) → AreOnce (blocks_in us)
      → Ahead before (blocks_in us) → Fits before (blocks_in us) g → Ended before us g (close (steps env uses g us))
  ends [] before g once ahead fits = record {
    list = sym (append-nil (closed g.open_group g.done)) ∙ closed_whole g.open_group g.done [];
    table = put_back_fits before [] g.scopes g.open_group fits.group;
    copies = fits.copies;
    told = fits.told;
  }
  ends (u ∷ us) before g once ahead fits =
      let stepped = any_step before u us g once ahead fits in
      let later = ends us (item u ∷ before) (step env uses g u) (once_rest u us once) stepped.ahead stepped.fits in
      record {
        list = later.list ∙ stepped.same;
        table = later.table;
        copies = later.copies;
        told = later.told;
      }

  -- what one pass over a list leaves
  pub record Went (us : List UnrolledStatement) (after : Going) : Type 0 where
    pub list : after.done ≡ merged_list env uses start scopes us
    pub table : after.scopes ≡ table (items_of env scopes us)
    pub copies : copies_of after.copies ≡ copies_at env uses start (items_of env scopes us)
    pub told : after.log ≡ logged (items_of env scopes us)

  pub went_merges : (us : List UnrolledStatement) → AreOnce (blocks_in us)
      → Went us (went env uses us scopes pairs log)
  went_merges us once =
      let end = ends us [] (starting env uses scopes pairs log) once (λ n m. refl) (record {
        group = (refl, refl);
        copies = refl;
        told = λ i. record { fates = sym (append-nil log.fates) i; merged = none_told log.merged i };
      }) in
      record { list = end.list; table = end.table; copies = end.copies; told = end.told }
