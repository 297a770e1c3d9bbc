-- The headline: how a returned function relates to its graph, and the causes of refusals.
use Rattle.std.specs.Prelude.{◌≡◌, false, All, List, Some, ⊤}
use Rattle.rc_hir.specs.Model.{Fault, HirFunction, Environment}
use Rattle.rc_hir.specs.declared.fault.Fault.TheVariants as faults
use Rattle.rc_hir.specs.Names.{NamesInTables, NamesOutside}
use Rattle.rc_tree.specs.TreeNames.{TreeInTables}
use Rattle.rc_tree.specs.Model.{ReactiveFunction}
use Rattle.rc_names.specs.Numbers.{DeclarationId}
use Rattle.rc_tree.specs.declared.fate.Fate.TheVariants.{NotEscaping}
use Rattle.rc_pipe.specs.declared.pipeline.Pruned.{Pruned}
use Rattle.rc_runs.specs.Event.{Event, End, has_throw}
use Rattle.rc_runs.specs.GraphRun.{IsGraphRun}
use Rattle.rc_runs.specs.Spelled.{Spells, with_header}
use Rattle.rc_runs.specs.BodyRun.{IsBodyRun}
use Rattle.rc_runs.specs.EarlyReturns.{first_early_return, NoEarlyReturnSet}
use Rattle.rc_build.specs.BuildCauses.{SpellsNone}
use Rattle.rc_build.specs.RuleFacts.{IsLabeledValue, RuleFact}
use Rattle.rc_escape.specs.WholeRecord.{HasWholeRecord, LacksNode, LacksScope}
use Rattle.rc_escape.specs.NotEscaping.{IsNeededOutput}
use Rattle.rc_merge.specs.Freshness.{DissolvesFresh, JoinsFresh, PartsFresh}
use Rattle.rc_pipe.specs.Causes.{HasRoom}
use Rattle.rc_pipe.specs.Fates.{AreFates, AreKeptExactly}
use Rattle.rc_pipe.specs.Passes.{AreInside, EndsOutside, IsPruned, state}

-- the conditions on a graph before it is built
pub record IsAccepted (hir : HirFunction) (env : Environment) : Type 0 where
  pub names : NamesInTables hir env
  pub no_early_return : NoEarlyReturnSet env
  pub room : HasRoom hir env

-- the graph spells the function, has no operand outside the blocks of its scope, and its memo record lacks nothing
pub record HasAnswer (hir : HirFunction) (env : Environment) (func : ReactiveFunction) : Type 0 where
  pub spelled : Spells hir env func
  pub inside : AreInside env func.body
  pub recorded : HasWholeRecord env func

-- the answer for a graph and its environment: a pruned function, its fates, and the environment after the passes
pub record IsAnswer (hir : HirFunction) (env answered : Environment) (pruned : Pruned) : Type 0 where
  pub accepted : IsAccepted hir env
  -- the graph spells exactly one function, and the passes lead from it to the answered one
  pub spelled : ReactiveFunction
  pub spells : Spells hir env spelled
  pub one_tree : (func : ReactiveFunction) → Spells hir env func → func ≡ spelled
  -- the answered function is the graph's header with the answered body
  pub header : pruned.func ≡ with_header hir pruned.func.body
  pub passes : IsPruned (state spelled env) (state pruned.func answered)
  -- every run of the graph is a run of the answered body, and the converse for runs without a throw
  pub graph_to_body : (events : List Event) (end : End) → IsGraphRun hir env events end →
      IsBodyRun pruned.func answered events end
  pub body_to_graph : (events : List Event) (end : End) → has_throw events ≡ false →
      IsBodyRun pruned.func answered events end → IsGraphRun hir env events end
  -- each scope of the spelled tree is listed once, in ascending order, with its fate
  pub fates : AreFates passes pruned.fates
  -- a scope of the spelled tree has a scope block in the answered one exactly if its fate is kept
  pub kept : AreKeptExactly pruned.func.body pruned.fates
  -- the memo record of the spelled function lacks nothing
  pub recorded : HasWholeRecord env spelled
  -- no scope that doesn't escape has an output that must be memoized
  pub needed : All (λ entry. entry.fate ≡ NotEscaping → (name : DeclarationId)
      → ¬ IsNeededOutput env spelled entry.scope name) pruned.fates
  -- where no copied name is written by two rows, a scope that is merged into a head recomputes only where the head
  -- does, in every legal render of the tree that merging received; scopes recompute by the dependencies that it
  -- received
  pub joins_fresh : JoinsFresh passes.others.used.env passes.others.used.func.body pruned.fates
  -- under the same premise, a scope recomputes wherever one of its parts would have: a scope that is merged into it, by
  -- one such fate or by several that follow each other
  pub parts_fresh : PartsFresh passes.others.used.env passes.others.used.func.body pruned.fates
  -- a scope that is dissolved into another recomputes only where that one does, in every render
  pub dissolves_fresh : DissolvesFresh passes.others.used.env pruned.fates
  -- every number of the answered function and of the answered environment is in its table
  pub known : TreeInTables pruned.func answered

-- The cause of each fault. Except for `NoMemory`, each cause excludes the earlier ones, in the order of the faults
-- here; of `Malformed` and `Todo` either may come where both have theirs.
abbrev pub IsCause : HirFunction → Environment → Fault → Type 0
IsCause hir env (faults.BadName table index) = NamesOutside hir env (faults.BadName table index)
IsCause hir env (faults.EarlyReturnSet scope) =
    NamesInTables hir env × (first_early_return env ≡ Some scope.0)
IsCause hir env faults.NoIds = NamesInTables hir env × NoEarlyReturnSet env × ¬ HasRoom hir env
IsCause hir env (faults.Malformed block rule) =
    IsAccepted hir env × SpellsNone hir env × RuleFact hir rule block
IsCause hir env (faults.Todo block) = IsAccepted hir env × SpellsNone hir env × IsLabeledValue hir block
IsCause hir env (faults.ScopeCompleted id scope) =
    IsAccepted hir env
    × ((func : ReactiveFunction) × Spells hir env func × EndsOutside env func.body id scope)
IsCause hir env (faults.Uninitialised declaration) =
    IsAccepted hir env
    × ((func : ReactiveFunction) × Spells hir env func × AreInside env func.body × LacksNode env func declaration)
IsCause hir env (faults.NoScopeNode scope) =
    IsAccepted hir env
    × ((func : ReactiveFunction) × Spells hir env func × AreInside env func.body × LacksScope env func scope)
IsCause hir env faults.NoMemory = ⊤
-- faults that no graph gives
IsCause hir env (faults.BadTarget target) = ⊥
IsCause hir env (faults.FunctionCycle function) = ⊥
