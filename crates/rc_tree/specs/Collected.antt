-- The contents of a tree, in the order of the text, from the contribution of each part.
--
-- Values and places are taken at the id of the row or terminal that has them. The order is that of the read walk: the
-- update of a `For` follows the loop block, and so does the test of a `DoWhile`.
use Rattle.std.specs.Prelude.{List, Option, None, Some, map}
use Rattle.rc_hir.specs.Model.{Place}
use Rattle.rc_names.specs.Numbers.{BlockId, EvaluationOrder, ScopeId}
use Rattle.rc_tree.specs.Joining.{Joining, all_of, if_there}
use Rattle.rc_tree.specs.TreeFold.{TreeFold, over_block, over_case, over_labeled, over_pruned_scope, over_scope}
use Rattle.rc_tree.specs.TreeFold.{over_statement, over_terminal}
use Rattle.rc_tree.specs.Model.{PrunedReactiveScopeBlock, ReactiveScopeBlock, ReactiveBlock, ReactiveStatement}
use Rattle.rc_tree.specs.Model.{ReactiveLabel, ReactiveSwitchCase, ReactiveTerminal, ReactiveTerminalStatement}
use Rattle.rc_tree.specs.Model.{ReactiveInstruction, ReactiveValue}
use Rattle.rc_tree.specs.declared.statement.ReactiveStatement.TheOpen as layer
use Rattle.rc_tree.specs.declared.statement.ReactiveStatement.TheOpen.{ReactiveStatement-F, ReactiveTerminal-F}
use Rattle.rc_tree.specs.declared.statement.ReactiveStatement.TheOpen.{ReactiveSwitchCase-F}

-- the contribution of each part of a tree
pub record Contributions (A : Type 0) : Type 0 where
  pub joining : Joining A
  pub row : ReactiveInstruction → A
  -- a value or a place of a terminal, at the terminal's id; the place of a case or of a `catch` may be absent, as a
  -- value may
  pub value : EvaluationOrder → Option ReactiveValue → A
  pub place : EvaluationOrder → Option Place → A
  -- the place of a `Return`, and the block that a jump names
  pub returned : EvaluationOrder → Place → A
  pub jump : BlockId → A
  pub label : Option ReactiveLabel → A
  -- a scope block and a pruned one, from the contents of the block
  pub scope : ScopeId → A → A
  pub pruned_scope : ScopeId → A → A

module _ {A : Type 0} (adds : Contributions A) where
  -- the contents of one part, followed by those of another
  abbrev pub followed_by : A → A → A
  followed_by = adds.joining.both

  -- a statement has the contents of its part
  abbrev pub of_statement : ReactiveStatement-F A A A A A (EvaluationOrder → A) A → A
  of_statement (layer.Instruction x) = adds.row x
  of_statement (layer.Terminal x) = x
  of_statement (layer.Scope x) = x
  of_statement (layer.PrunedScope x) = x

  -- the parts of each terminal, in the order of the read walk
  abbrev pub of_terminal : ReactiveTerminal-F A A A A A (EvaluationOrder → A) A → A
  of_terminal (layer.Break target kind id) = adds.jump target
  of_terminal (layer.Continue target kind id) = adds.jump target
  of_terminal (layer.Return place id) = adds.returned id place
  of_terminal (layer.Throw place id) = adds.place id (Some place)
  of_terminal (layer.Switch test cases id) =
      followed_by (adds.place id (Some test)) (all_of adds.joining (map (λ case. case id) cases))
  of_terminal (layer.DoWhile body test id) = followed_by body (adds.value id (Some test))
  of_terminal (layer.While test body id) = followed_by (adds.value id (Some test)) body
  of_terminal (layer.For init test update body id) =
      followed_by (adds.value id (Some init))
      (followed_by (adds.value id (Some test)) (followed_by body (adds.value id update)))
  of_terminal (layer.ForOf init test body span id) =
      followed_by (adds.value id (Some init)) (followed_by (adds.value id (Some test)) body)
  of_terminal (layer.ForIn init body span id) = followed_by (adds.value id (Some init)) body
  of_terminal (layer.If test consequent alternate id) =
      followed_by (adds.place id (Some test)) (followed_by consequent (if_there adds.joining alternate))
  of_terminal (layer.Label body id) = body
  of_terminal (layer.Try body binding handler id) = followed_by body (followed_by (adds.place id binding) handler)

  -- the test of a case is taken at the id of its switch
  abbrev pub of_case : ReactiveSwitchCase-F A A A A A (EvaluationOrder → A) A → EvaluationOrder → A
  of_case x id = followed_by (adds.place id x.test) (if_there adds.joining x.block)

  -- the contents of each kind of part, from those of its own parts; a label comes before its terminal
  abbrev pub collecting : TreeFold A A A A A (EvaluationOrder → A) A
  collecting = record {
    statement = of_statement;
    terminal = of_terminal;
    pruned_scope = λ x. adds.pruned_scope x.scope x.instructions;
    scope = λ x. adds.scope x.scope x.instructions;
    block = λ x. all_of adds.joining x.statements;
    case = of_case;
    labeled = λ x. followed_by (adds.label x.label) x.terminal;
  }

  -- the contents of a tree, and of each other part of it
  unfoldable pub collected : ReactiveBlock → A
  collected = over_block collecting

  unfoldable pub collected_statement : ReactiveStatement → A
  collected_statement = over_statement collecting

  unfoldable pub collected_terminal : ReactiveTerminal → A
  collected_terminal = over_terminal collecting

  unfoldable pub collected_pruned_scope : PrunedReactiveScopeBlock → A
  collected_pruned_scope = over_pruned_scope collecting

  unfoldable pub collected_scope : ReactiveScopeBlock → A
  collected_scope = over_scope collecting

  unfoldable pub collected_case : ReactiveSwitchCase → EvaluationOrder → A
  collected_case = over_case collecting

  unfoldable pub collected_labeled : ReactiveTerminalStatement → A
  collected_labeled = over_labeled collecting

  -- the contents of a list of statements
  abbrev pub collected_list : List ReactiveStatement → A
  collected_list xs = all_of adds.joining (map collected_statement xs)

  -- the contents of an optional block
  abbrev pub collected_if : Option ReactiveBlock → A
  collected_if None = adds.joining.nothing
  collected_if (Some x) = collected x

  -- the contents of the cases of a switch, at its id
  abbrev pub collected_cases : EvaluationOrder → List ReactiveSwitchCase → A
  collected_cases id cases = all_of adds.joining (map (λ case. case id) (map collected_case cases))
