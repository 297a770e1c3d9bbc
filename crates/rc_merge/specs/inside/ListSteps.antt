-- A list of statements, one after the other, with one group that is open.
use Rattle.std.specs.Prelude.{Bool, true, false, List, [], ◌∷◌, ◌++◌, Option, None, Some, map, slice_set}
use Rattle.std.specs.Option.{option_map}
use Rattle.rc_hir.specs.Model.{Environment, ReactiveScope}
use Rattle.rc_names.specs.Numbers.{DeclarationId, ScopeId}
use Rattle.rc_tree.specs.Unrolled.{UnrolledStatement}
use Rattle.rc_tree.specs.Model.{ReactiveInstruction, ReactiveScopeBlock, ReactiveStatement}
use Rattle.rc_tree.specs.declared.fate.Fate.TheVariants.{MergedInto}
use Rattle.rc_tree.specs.declared.fate.ScopeFate.{ScopeFate}
use Rattle.rc_tree.specs.declared.statement.ReactiveStatement.{roll-ReactiveStatement}
use Rattle.rc_tree.specs.declared.statement.ReactiveStatement.TheOpen as layer
use Rattle.rc_tree.specs.declared.statement.ReactiveStatement.TheVariants as reactive
use Rattle.rc_merge.specs.Explained.{Joined}
use Rattle.rc_merge.specs.Joining.{begins, grown, joins}
use Rattle.rc_merge.specs.LastUses.{LastUses}
use Rattle.rc_merge.specs.Places.{NumberedScope, no_scope, scope_at}
use Rattle.rc_merge.specs.declared.facts.MergedFacts.{MergedFacts}
use Rattle.rc_merge.specs.declared.tables.Log.{Log}
use Rattle.rc_merge.specs.inside.Rows.{CopyPairs, copies_of, copy_of_row, names_of_row, noted, row_passes}
use Rattle.rc_merge.specs.inside.Told.{facts_of}

-- the group that is open: its head, what the head's block holds, and the rows that passed since, with their names
pub record Open : Type 0 where
  pub head : NumberedScope
  pub inside : List ReactiveStatement
  pub rows : List ReactiveInstruction
  pub names : List DeclarationId

-- the state within a list: the finished statements, the open group, the scopes (without the head's), the copies, and
-- the decisions with what is told of them
pub record Going : Type 0 where
  pub done : List ReactiveStatement
  pub open_group : Option Open
  pub scopes : List ReactiveScope
  pub copies : CopyPairs
  pub log : Log

abbrev pub row_statements : List ReactiveInstruction → List ReactiveStatement
row_statements rows = map (λ row. reactive.Instruction row) rows

-- the statement is a scope block
abbrev pub is_scope : UnrolledStatement → Bool
is_scope (layer.Scope block) = true
is_scope _ = false

-- the block of a scope
abbrev pub block_of : ScopeId → List ReactiveStatement → ReactiveScopeBlock
block_of number inside = record { scope = number; instructions = record { statements = inside } }

-- the statements with those of the open group
abbrev pub closed : Option Open → List ReactiveStatement → List ReactiveStatement
closed None done = done
closed (Some o) done = done ++ reactive.Scope (block_of o.head.number o.inside) ∷ row_statements o.rows

-- the scopes with the head in its place
abbrev pub put_back : Option Open → List ReactiveScope → List ReactiveScope
put_back None scopes = scopes
put_back (Some o) scopes = slice_set scopes o.head.number.0 o.head.own

-- the group is closed
abbrev pub close : Going → Going
close g = record {
  done = closed g.open_group g.done;
  open_group = None;
  scopes = put_back g.open_group g.scopes;
  copies = g.copies;
  log = g.log;
}

-- a statement is done
abbrev pub done_with : ReactiveStatement → Going → Going
done_with statement g = record g { done = g.done ++ statement ∷ [] }

-- the group with the rows since and the contents of a block
abbrev pub swallowed : Open → ReactiveScopeBlock → Open
swallowed o block = record {
  head = o.head;
  inside = (o.inside ++ row_statements o.rows) ++ block.instructions.statements;
  rows = [];
  names = [];
}

abbrev pub merged_fate : ScopeId → ScopeId → ScopeFate
merged_fate scope head = record { scope = scope; fate = MergedInto head }

-- a fate is decided
abbrev pub with_fate : ScopeFate → Log → Log
with_fate entry log = record log { fates = log.fates ++ entry ∷ [] }

-- facts are told, where they are asked for
abbrev pub with_facts : MergedFacts → Log → Log
with_facts facts log = record log { merged = option_map (λ merged. merged ++ facts ∷ []) log.merged }

-- a scope joins the head of the open group
abbrev pub joined_open : CopyPairs → Open → NumberedScope → Joined
joined_open copies o scope = record { head = o.head; next = scope; names = o.names; copies = copies_of copies }

module _ (env : Environment) (uses : LastUses) where
  abbrev pub with_row : Open → ReactiveInstruction → Open
  with_row o row = record o { rows = o.rows ++ row ∷ []; names = o.names ++ names_of_row env row }

  -- a row that passes
  abbrev pub step_passing : Option Open → ReactiveInstruction → Going → Going
  step_passing None row g = done_with (reactive.Instruction row) g
  step_passing (Some o) row g =
      record g { open_group = Some (with_row o row); copies = noted g.copies (copy_of_row env row) }

  -- any statement but a row that passes and a scope block
  abbrev pub step_other : ReactiveStatement → Going → Going
  step_other statement g = done_with statement (close g)

  -- a block begins a group, where its scope may; its scope is taken out of its place
  abbrev pub begin_if : Bool → ReactiveScopeBlock → Going → Going
  begin_if false block g = done_with (reactive.Scope block) g
  begin_if true block g = record g {
    open_group = Some (record {
      head = scope_at g.scopes block.scope;
      inside = block.instructions.statements;
      rows = [];
      names = [];
    });
    scopes = slice_set g.scopes block.scope.0 no_scope;
  }

  -- the group stays open where the block could begin one
  abbrev pub stay_if : Bool → Going → Going
  stay_if true g = g
  stay_if false g = close g

  -- a block goes into a group whose head has grown
  abbrev pub taken_in : Bool → Open → ReactiveScopeBlock → Going → Going
  taken_in opens o block g = stay_if opens (record g {
    open_group = Some (swallowed o block);
    log = with_fate (merged_fate block.scope o.head.number) g.log;
  })

  -- the head has grown where the scope joins
  abbrev pub grown_if : Bool → Open → NumberedScope → Open
  grown_if true o scope = record o { head = grown env uses o.head scope }
  grown_if false o scope = o

  abbrev pub told_open : CopyPairs → Open → NumberedScope → Log → Log
  told_open copies o scope = with_facts (facts_of env uses (joined_open copies o scope))

  -- the facts of a scope that joins are told, as the head was before
  abbrev pub told : Open → ReactiveScopeBlock → Going → Going
  told o block g = record g { log = told_open g.copies o (scope_at g.scopes block.scope) g.log }

  -- a block joins the group, or closes it
  abbrev pub join_if : Bool → Bool → Open → ReactiveScopeBlock → Going → Going
  join_if true opens o block g =
      taken_in opens (grown_if true o (scope_at g.scopes block.scope)) block (told o block g)
  join_if false opens o block g = begin_if opens block (close g)

  abbrev pub joins_open : CopyPairs → Open → NumberedScope → Bool
  joins_open copies o scope = joins env uses (copies_of copies) o.head.own o.names scope.own

  -- a scope block
  abbrev pub step_scope : Option Open → ReactiveScopeBlock → Going → Going
  step_scope None block g = begin_if (begins env (scope_at g.scopes block.scope).own) block g
  step_scope (Some o) block g = join_if (joins_open g.copies o (scope_at g.scopes block.scope))
      (begins env (scope_at g.scopes block.scope).own) o block g

  abbrev pub step_row : Bool → ReactiveInstruction → Going → Going
  step_row true row g = step_passing g.open_group row g
  step_row false row g = step_other (reactive.Instruction row) g

  -- one statement
  abbrev pub step : Going → UnrolledStatement → Going
  step g (layer.Instruction row) = step_row (row_passes row) row g
  step g (layer.Scope block) = step_scope g.open_group block g
  step g other = step_other (roll-ReactiveStatement other) g

  -- statements, one after the other
  abbrev pub steps : Going → List UnrolledStatement → Going
  steps g [] = g
  steps g (statement ∷ statements) = steps (step g statement) statements

  -- a list that starts with these scopes, copies and decisions
  abbrev pub starting : List ReactiveScope → CopyPairs → Log → Going
  starting scopes copies log = record { done = []; open_group = None; scopes = scopes; copies = copies; log = log }

  -- the whole list
  abbrev pub went : List UnrolledStatement → List ReactiveScope → CopyPairs → Log → Going
  went statements scopes copies log = close (steps (starting scopes copies log) statements)
