-- Plain terminals by shape: those with no list, with one, with two, and a switch.
--
-- What holds of all terminals of a shape is proved once: which tree the terminal is, what early returns make of it, and
-- that it has the runs of the terminal whose lists have the runs of its own.
use Rattle.std.proofs.Common.{◌≡◌, Option, refl, option_map}
use Rattle.rc_names.specs.Numbers.{EvaluationOrder}
use Rattle.rc_names.specs.declared.span.Span.{Span}
use Rattle.rc_hir.specs.Model.{Environment, Place}
use Rattle.rc_tree.specs.Model.{ReactiveLabel}
use Rattle.rc_tree.proofs.TerminalShapes as shapes
use Rattle.rc_tree.proofs.TerminalShapes.{Leaf, OneBlock, TwoBlocks, leaf, with_block, with_blocks}
use Rattle.rc_runs.specs.PlainTree.{Value, Statements, TreeTerminal, Absent, Present}
use Rattle.rc_runs.specs.PlainTree as plain
use Rattle.rc_runs.specs.Returning.{returning, returning_alternate, returning_terminal}
use Rattle.rc_runs.specs.TreeOf.{block_of, terminal_of, value_of}
use Rattle.rc_runs.proofs.KeepsRunsLemmas.{KeepsRuns, SameRuns, absent-keeps_runs, if-keeps_runs, label-keeps_runs}
use Rattle.rc_runs.proofs.KeepsRunsLemmas.{present-keeps_runs, try-keeps_runs}
use Rattle.rc_runs.proofs.LoopsKeepRuns.{do_while-keeps_runs, for-keeps_runs, for_in-keeps_runs, for_of-keeps_runs}
use Rattle.rc_runs.proofs.LoopsKeepRuns.{same_option, same_value, while-keeps_runs}
use Rattle.rc_runs.proofs.PlainLists.{labeled}

-- a terminal with one list, without that list
pub data OneList : Type 0 where
  DoWhile : (test : Value) (id : EvaluationOrder) → OneList
  While : (test : Value) (id : EvaluationOrder) → OneList
  For : (init test : Value) (update : Option Value) (id : EvaluationOrder) → OneList
  ForOf : (init test : Value) (span : Option Span) (id : EvaluationOrder) → OneList
  ForIn : (init : Value) (span : Option Span) (id : EvaluationOrder) → OneList
  IfAlone : (test : Place) (id : EvaluationOrder) → OneList
  Label : (id : EvaluationOrder) → OneList

-- the terminal of each shape; those with no list and with two hold no value, so that the shapes of trees serve them
abbrev pub plain_leaf : Leaf → TreeTerminal
plain_leaf (shapes.Break target kind id) = plain.Break target kind id
plain_leaf (shapes.Continue target kind id) = plain.Continue target kind id
plain_leaf (shapes.Return value id) = plain.Return value id
plain_leaf (shapes.Throw value id) = plain.Throw value id

abbrev pub with_list : OneList → Statements → TreeTerminal
with_list (DoWhile test id) body = plain.DoWhile body test id
with_list (While test id) body = plain.While test body id
with_list (For init test update id) body = plain.For init test update body id
with_list (ForOf init test span id) body = plain.ForOf init test body span id
with_list (ForIn init span id) body = plain.ForIn init body span id
with_list (IfAlone test id) body = plain.If test body Absent id
with_list (Label id) body = plain.Label body id

abbrev pub with_lists : TwoBlocks → Statements → Statements → TreeTerminal
with_lists (shapes.IfElse test id) first second = plain.If test first (Present second) id
with_lists (shapes.Try binding id) first second = plain.Try first binding second id

-- the shape of the tree that such a terminal is
abbrev pub shape_of : OneList → OneBlock
shape_of (DoWhile test id) = shapes.DoWhile (value_of test) id
shape_of (While test id) = shapes.While (value_of test) id
shape_of (For init test update id) = shapes.For (value_of init) (value_of test) (option_map value_of update) id
shape_of (ForOf init test span id) = shapes.ForOf (value_of init) (value_of test) span id
shape_of (ForIn init span id) = shapes.ForIn (value_of init) span id
shape_of (IfAlone test id) = shapes.IfAlone test id
shape_of (Label id) = shapes.Label id

pub tree_of-leaf : (shape : Leaf) → terminal_of (plain_leaf shape) ≡ leaf shape
tree_of-leaf (shapes.Break target kind id) = refl
tree_of-leaf (shapes.Continue target kind id) = refl
tree_of-leaf (shapes.Return value id) = refl
tree_of-leaf (shapes.Throw value id) = refl

pub tree_of-one : (shape : OneList) (body : Statements)
    → terminal_of (with_list shape body) ≡ with_block (shape_of shape) (block_of body)
tree_of-one (DoWhile test id) body = refl
tree_of-one (While test id) body = refl
tree_of-one (For init test update id) body = refl
tree_of-one (ForOf init test span id) body = refl
tree_of-one (ForIn init span id) body = refl
tree_of-one (IfAlone test id) body = refl
tree_of-one (Label id) body = refl

pub tree_of-two : (shape : TwoBlocks) (first second : Statements)
    → terminal_of (with_lists shape first second) ≡ with_blocks shape (block_of first) (block_of second)
tree_of-two (shapes.IfElse test id) first second = refl
tree_of-two (shapes.Try binding id) first second = refl

module _ (env : Environment) where
  -- early returns in the lists alone
  pub returning-one : (stored : Option Place) (shape : OneList) (body : Statements)
      → returning_terminal env stored (with_list shape body) ≡ with_list shape (returning env body)
  unfolding returning_terminal returning_alternate
  returning-one stored (DoWhile test id) body = refl
  returning-one stored (While test id) body = refl
  returning-one stored (For init test update id) body = refl
  returning-one stored (ForOf init test span id) body = refl
  returning-one stored (ForIn init span id) body = refl
  returning-one stored (IfAlone test id) body = refl
  returning-one stored (Label id) body = refl

  pub returning-two : (stored : Option Place) (shape : TwoBlocks) (first second : Statements)
      → returning_terminal env stored (with_lists shape first second)
      ≡ with_lists shape (returning env first) (returning env second)
  unfolding returning_terminal returning_alternate
  returning-two stored (shapes.IfElse test id) first second = refl
  returning-two stored (shapes.Try binding id) first second = refl

  -- a list with the runs of another one, in a terminal
  keeps-one : (shape : OneList) (label : Option ReactiveLabel) (from to : Statements) → KeepsRuns env from to
      → KeepsRuns env (labeled (with_list shape from) label) (labeled (with_list shape to) label)
  keeps-one (DoWhile test id) label from to keeps =
      do_while-keeps_runs env id from to label label keeps refl test test (same_value env test)
  keeps-one (While test id) label from to keeps =
      while-keeps_runs env id from to label label keeps refl test test (same_value env test)
  keeps-one (For init test update id) label from to keeps =
      for-keeps_runs env id from to label label keeps refl init init test test update update (same_value env init)
      (same_value env test) (same_option env update)
  keeps-one (ForOf init test span id) label from to keeps =
      for_of-keeps_runs env id from to label label keeps refl init init test test span (same_value env init)
      (same_value env test)
  keeps-one (ForIn init span id) label from to keeps =
      for_in-keeps_runs env id from to label label keeps refl init init span (same_value env init)
  keeps-one (IfAlone test id) label from to keeps =
      if-keeps_runs env test id from to Absent Absent label label keeps (absent-keeps_runs env) refl
  keeps-one (Label id) label from to keeps = label-keeps_runs env id from to label label keeps refl

  keeps-two : (shape : TwoBlocks) (label : Option ReactiveLabel) (first first' second second' : Statements)
      → KeepsRuns env first first' → KeepsRuns env second second'
      → KeepsRuns env (labeled (with_lists shape first second) label) (labeled (with_lists shape first' second') label)
  keeps-two (shapes.IfElse test id) label first first' second second' keeps keeps' =
      if-keeps_runs env test id first first' (Present second) (Present second') label label keeps
      (present-keeps_runs env second second' keeps') refl
  keeps-two (shapes.Try binding id) label first first' second second' keeps keeps' =
      try-keeps_runs env binding id first first' second second' label label keeps keeps' refl

  pub same-one : (shape : OneList) (label : Option ReactiveLabel) (body body' : Statements) → SameRuns env body body'
      → SameRuns env (labeled (with_list shape body) label) (labeled (with_list shape body') label)
  same-one shape label body body' same =
      (keeps-one shape label body body' same.0, keeps-one shape label body' body same.1)

  pub same-two : (shape : TwoBlocks) (label : Option ReactiveLabel) (first first' second second' : Statements)
      → SameRuns env first first' → SameRuns env second second'
      → SameRuns env (labeled (with_lists shape first second) label) (labeled (with_lists shape first' second') label)
  same-two shape label first first' second second' same same' = (
    keeps-two shape label first first' second second' same.0 same'.0,
    keeps-two shape label first' first second' second same.1 same'.1,
  )
