-- The steps by which a tree carries reactivity on, in the order of the rewriting walk.
--
-- A row carries from what it reads to what it writes, once the rows inside it are done. A scope block ends after its
-- inside. The update of a `For` comes before the loop block.
pub mod Values
use Rattle.std.specs.Prelude.{List, [], ◌∷◌, ◌++◌, Some}
use Rattle.rc_hir.specs.Model.{Environment}
use Rattle.rc_names.specs.Numbers.{EvaluationOrder}
use Rattle.rc_tree.specs.Collected.{Contributions, collecting, of_terminal as in_text_order}
use Rattle.rc_tree.specs.CollectedValues.{collected_row, collected_value_if}
use Rattle.rc_tree.specs.Joining.{lists}
use Rattle.rc_tree.specs.TreeFold.{TreeFold, over_block}
use Rattle.rc_tree.specs.Model.{ReactiveBlock}
use Rattle.rc_tree.specs.declared.statement.ReactiveStatement.TheOpen as layer
use Rattle.rc_tree.specs.declared.statement.ReactiveStatement.TheOpen.{ReactiveTerminal-F}
use Rattle.rc_flow.specs.Flows.Values.{row_flows}
use Rattle.rc_flow.specs.declared.step.Step.{Step}
use Rattle.rc_flow.specs.declared.step.Step.TheVariants.{Ends}

-- the steps of a part, in the order in which they happen
abbrev pub Steps : Type 0
Steps = List Step

module _ (env : Environment) where
  -- the steps of each part; places, jumps and labels have none
  abbrev pub flow_parts : Contributions Steps
  flow_parts = record {
    joining = lists;
    row = collected_row (row_flows env);
    value = collected_value_if (row_flows env);
    place = λ id x. [];
    returned = λ id x. [];
    jump = λ target. [];
    label = λ label. [];
    scope = λ scope inside. inside ++ Ends scope ∷ [];
    pruned_scope = λ scope inside. inside;
  }

  -- the parts of a terminal are in the order of the text, except those of a `For`
  abbrev pub of_terminal : ReactiveTerminal-F Steps Steps Steps Steps Steps (EvaluationOrder → Steps) Steps → Steps
  of_terminal (layer.For init test update body id) =
      flow_parts.value id (Some init)
      ++ (flow_parts.value id (Some test) ++ (flow_parts.value id update ++ body))
  of_terminal terminal = in_text_order flow_parts terminal

  -- the steps of each kind of part, from those of its own parts
  abbrev pub flowing : TreeFold Steps Steps Steps Steps Steps (EvaluationOrder → Steps) Steps
  flowing = record (collecting flow_parts) { terminal = of_terminal }

  -- the steps of a tree
  unfoldable pub flows_in : ReactiveBlock → Steps
  flows_in = over_block flowing
