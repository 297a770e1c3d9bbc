-- The results of the calls that prune labels.
--
-- A part is pruned in its place, except a `Label`: its statements are put where it is, at the end of those done,
-- before it is judged. One that stays takes them back.
use Rattle.std.specs.Prelude.{◌≡◌, ◌+◌, ℕ, List, [], ◌∷◌, ◌++◌, Option, None, Some, Result, Ok}
use Rattle.std.specs.Prelude.{drop, map, reverse, take}
use Rattle.rc_checks.specs.Labels.{Targets, label_rules}
use Rattle.rc_hir.specs.Model.{Fault}
use Rattle.rc_names.specs.Numbers.{EvaluationOrder}
use Rattle.rc_tree.specs.Unrolled.{UnrolledTerminal}
use Rattle.rc_tree.specs.Step.{bind}
use Rattle.rc_tree.specs.Rebuilt.{joined, rebuilt_statement}
use Rattle.rc_tree.specs.Model.{ReactiveBlock, ReactiveStatement}
use Rattle.rc_tree.specs.declared.statement.ReactiveStatement.TheOpen as layer
use Rattle.rc_tree.specs.declared.terminal.ReactiveTerminal.{ReactiveTerminal, out-ReactiveTerminal}
use Rattle.rc_tree.specs.declared.terminal.ReactiveTerminal.TheVariants as tree
use Rattle.rc_walk.specs.Statements.{TreeStatements}

-- the replacement of a part, put at the end of the statements that are done
abbrev pub put_behind : {X : Type 0} → List X → Result (Targets × List X) Fault → Result (Targets × List X) Fault
put_behind done part = bind part (λ a. Ok (a.0, done ++ a.1))

-- the replacement of the last statement that is left is put at the end of those that are done
pub record IsLastPut (left : TreeStatements) (targets : Targets) (done left1 : TreeStatements) (targets1 : Targets)
    (done1 : TreeStatements) : Type 0 where
  pub last : ReactiveStatement
  pub is_last : left ≡ left1 ++ last ∷ []
  pub put : put_behind done (rebuilt_statement label_rules last targets) ≡ Ok (targets1, done1)

-- statements are pruned in their place up to the first one that gives way, and those after it are as they were: the
-- ones that stay, the statements of that one, and the replacements of the others are the replacements of all
pub record IsFrontPruned (statements : TreeStatements) (targets : Targets) (staying : ℕ) (statements1 : TreeStatements)
    (targets1 : Targets) (done1 : TreeStatements) : Type 0 where
  pub behind : drop (staying + 1) statements1 ≡ drop (staying + 1) statements
  pub put : put_behind (take staying statements1 ++ done1)
      (joined (map (rebuilt_statement label_rules) (drop (staying + 1) statements)) targets1)
      ≡ joined (map (rebuilt_statement label_rules) statements) targets

-- a `Label`: its body, and its place in the order
abbrev pub OpenLabel : Type 0
OpenLabel = ReactiveBlock × EvaluationOrder

-- the body and the place of a terminal's variant, where it is `Label`
abbrev pub as_label : UnrolledTerminal → Option OpenLabel
as_label (layer.Label body id) = Some (body, id)
as_label _ = None

-- the terminal, where it is a `Label`
abbrev pub label_in : ReactiveTerminal → Option OpenLabel
label_in x = as_label (out-ReactiveTerminal x)

-- the statements of a `Label`
abbrev pub moved : Option OpenLabel → TreeStatements
moved (Some label) = label.0.statements
moved None = []

-- a terminal that has lost its statements, where it is a `Label`
abbrev pub emptied_label : Option OpenLabel → ReactiveTerminal → ReactiveTerminal
emptied_label (Some label) x = tree.Label (record { statements = [] }) label.1
emptied_label None x = x

-- a terminal whose inside is pruned; the statements of a `Label` are put at the end of those that are done
abbrev pub opened : TreeStatements → Result (Targets × ReactiveTerminal) Fault
    → Result (Targets × (ReactiveTerminal × TreeStatements)) Fault
opened done terminal = bind terminal (λ a. Ok (a.0, (emptied_label (label_in a.1) a.1, done ++ moved (label_in a.1))))

-- a terminal that has its statements again, where it is a `Label`: those that are done from the start on
abbrev pub refilled : TreeStatements → ℕ → Option OpenLabel → ReactiveTerminal → ReactiveTerminal
refilled done start (Some label) x =
    tree.Label (record { statements = drop start done ++ reverse label.0.statements }) label.1
refilled done start None x = x

-- the statements that are done without them
abbrev pub done_before : TreeStatements → ℕ → Option OpenLabel → TreeStatements
done_before done start (Some label) = take start done
done_before done start None = done
