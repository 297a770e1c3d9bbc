-- The memo record of a function, and what it may lack: a node, or the record of the scope of a node.
use Rattle.std.specs.Prelude.{◌≡◌, ⊤, List, [], Some, map}
use Rattle.rc_hir.specs.Model.{Environment, Fault}
use Rattle.rc_hir.specs.declared.fault.Fault.TheVariants as faults
use Rattle.rc_names.specs.Numbers.{DeclarationId, ScopeId}
use Rattle.rc_tree.specs.Model.{ReactiveFunction}
use Rattle.rc_memo.specs.Events.{facts_told}
use Rattle.rc_memo.specs.Facts.{first_missing}
use Rattle.rc_memo.specs.Record.{IsRecordOf, param_name}
use Rattle.rc_memo.specs.TreeEvents.{events_in}
use Rattle.rc_memo.specs.declared.record.MemoRecord.{MemoRecord}
use Rattle.rc_escape.specs.MemoSet.{IsLowest, IsMemoSet, scopes_without_record}

module _ (env : Environment) where
  -- the names are those that the walk over the function's record memoizes, in which each scope of a node has a record
  pub record AreMemoized (func : ReactiveFunction) (set : List DeclarationId) : Type 0 where
    pub rec : MemoRecord
    pub recorded : IsRecordOf func env rec
    pub whole : scopes_without_record rec ≡ []
    pub memoized : IsMemoSet rec set

  -- the first name of which the function's record needs a node, and which has none yet
  abbrev pub LacksNode : ReactiveFunction → DeclarationId → Type 0
  LacksNode func name =
      first_missing [] (facts_told (map (param_name env) func.params) (events_in env func.body)) ≡ Some name

  -- the function has a record, and the scope is the lowest of a node that has no record
  pub record LacksScope (func : ReactiveFunction) (scope : ScopeId) : Type 0 where
    pub rec : MemoRecord
    pub recorded : IsRecordOf func env rec
    pub lowest : IsLowest (scopes_without_record rec) scope

  -- the function has a record, and so has each scope of its nodes
  pub record HasWholeRecord (func : ReactiveFunction) : Type 0 where
    pub rec : MemoRecord
    pub recorded : IsRecordOf func env rec
    pub whole : scopes_without_record rec ≡ []

  -- the fault names what the function's record lacks
  abbrev pub IsEscapeFault : ReactiveFunction → Fault → Type 0
  IsEscapeFault func (faults.Uninitialised name) = LacksNode func name
  IsEscapeFault func (faults.NoScopeNode scope) = LacksScope func scope
  IsEscapeFault func faults.NoMemory = ⊤
  IsEscapeFault func _ = ⊥
