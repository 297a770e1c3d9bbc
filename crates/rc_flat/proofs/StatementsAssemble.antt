-- A statement with numbers in the places of its blocks and values: reading it takes these and gives the statement.
use Rattle.std.proofs.Common.{◌≡◌, ◌∙◌, ◌+◌, List, [], ◌∷◌, ◌++◌, Option, Some, None, refl, sym, ap, subst}
use Rattle.rc_tree.specs.Model.{ReactiveBlock, ReactiveInstruction, ReactiveStatement, ReactiveSwitchCase}
use Rattle.rc_tree.specs.Model.{ReactiveTerminal, ReactiveValue}
use Rattle.rc_tree.specs.Unrolled.{UnrolledStatement, UnrolledTerminal}
use Rattle.rc_tree.specs.declared.statement.ReactiveStatement.{out-ReactiveStatement, roll-ReactiveStatement}
use Rattle.rc_tree.specs.declared.statement.ReactiveStatement.{roll-out-ReactiveStatement}
use Rattle.rc_tree.specs.declared.statement.ReactiveStatement.TheOpen as layer
use Rattle.rc_tree.specs.declared.statement.ReactiveStatement.TheVariants as reactive
use Rattle.rc_tree.specs.declared.terminal.ReactiveSwitchCase.{roll-out-ReactiveSwitchCase}
use Rattle.rc_tree.specs.declared.terminal.ReactiveTerminal.{out-ReactiveTerminal, roll-ReactiveTerminal}
use Rattle.rc_tree.specs.declared.terminal.ReactiveTerminal.{roll-out-ReactiveTerminal}
use Rattle.rc_tree.specs.declared.terminal.ReactiveTerminal.TheVariants as tree
use Rattle.rc_flat.specs.Model.{FlatTerminal}
use Rattle.rc_flat.specs.Values.{nested}
use Rattle.rc_flat.specs.Blocks.{block_if, block_of_case, blocks_in, blocks_in_cases}
use Rattle.rc_flat.specs.Blocks.{blocks_in_statement, blocks_in_terminal, flat_cases, flat_statement, flat_statements}
use Rattle.rc_flat.specs.Blocks.{flat_terminal, flat_value_if, nested_if, number_if, values_in, values_in_statement}
use Rattle.rc_flat.specs.Blocks.{values_in_terminal}
use Rattle.rc_flat.specs.inside.Assembly.{Found, case_from, from_last, if_there, statement_from, take_block}
use Rattle.rc_flat.specs.inside.Assembly.{terminal_from, value_from}
use Rattle.rc_flat.proofs.Waiting.{block_taken, blocks_join, more, more_blocks, more_join, more_values}
use Rattle.rc_flat.proofs.Waiting.{next_of, no_blocks, no_values, none_more, read_is, values_join}
use Rattle.rc_flat.proofs.ValuesAssemble.{row_read, value_read}

-- ---- parts that may be missing

pub value_if_read : (found : Found) (x : Option ReactiveValue)
    → if_there value_from (flat_value_if found.next_value x) (more_values found (nested_if x)) ≡ Some (x, found)
value_if_read found None = read_is refl (sym (no_values found))
value_if_read found (Some x) = rw (value_read found x) refl

pub block_if_read : (found : Found) (x : Option ReactiveBlock)
    → if_there take_block (number_if found.next_block x) (more_blocks found (block_if x)) ≡ Some (x, found)
block_if_read found None = read_is refl (sym (no_blocks found))
block_if_read found (Some x) = rw (block_taken found x) refl

-- ---- cases

pub cases_read : (found : Found) (cases : List ReactiveSwitchCase)
    → from_last case_from (flat_cases found.next_block cases) (more_blocks found (blocks_in_cases cases))
    ≡ Some (cases, found)
cases_read found [] = read_is refl (sym (no_blocks found))
cases_read found (case ∷ cases) =
    subst (λ w. from_last case_from (flat_cases found.next_block (case ∷ cases)) w ≡ Some (case ∷ cases, found))
    (blocks_join found (block_if (block_of_case case)) (blocks_in_cases cases))
    (rw (
      cases_read (more_blocks found (block_if (block_of_case case))) cases,
      block_if_read found (block_of_case case),
    )
    (ap (λ x. Some (x ∷ cases, found)) (roll-out-ReactiveSwitchCase case)))

-- ---- terminals

module _ (found : Found) where
  abbrev IsTerminalRead : UnrolledTerminal → Type 0
  IsTerminalRead l =
      terminal_from (flat_terminal (next_of found) l) (more found (blocks_in_terminal l) (values_in_terminal l))
      ≡ Some (roll-ReactiveTerminal l, found)

  made : {a b : ReactiveTerminal} → a ≡ b → ◌≡◌ {A = Option (ReactiveTerminal × Found)} (Some (b, found)) (Some (a, found))
  made e = read_is (sym e) refl

  leaf : {a b : ReactiveTerminal} → a ≡ b
      → ◌≡◌ {A = Option (ReactiveTerminal × Found)} (Some (b, more found [] [])) (Some (a, found))
  leaf e = read_is (sym e) (sym (none_more found))

  -- where no value is taken
  blocks_alone : (v : FlatTerminal) (bs : List ReactiveBlock) (x : ReactiveTerminal)
      → terminal_from v (more_blocks found bs) ≡ Some (x, found) → terminal_from v (more found bs []) ≡ Some (x, found)
  blocks_alone v bs x h = subst (λ w. terminal_from v w ≡ Some (x, found)) (no_values (more_blocks found bs)) h

  -- where the blocks are taken one by one
  one_by_one : (v : FlatTerminal) (bs : List ReactiveBlock) (last : ReactiveBlock) (x : ReactiveTerminal)
      → terminal_from v (more_blocks (more_blocks found bs) (last ∷ [])) ≡ Some (x, found)
      → terminal_from v (more found (bs ++ last ∷ []) []) ≡ Some (x, found)
  one_by_one v bs last x h =
      blocks_alone v (bs ++ last ∷ []) x
      (subst (λ w. terminal_from v w ≡ Some (x, found)) (blocks_join found bs (last ∷ [])) h)

  terminal_layer_read : (l : UnrolledTerminal) → IsTerminalRead l
  terminal_layer_read (layer.Break target kind id) = leaf (tree.rolls-Break target kind id)
  terminal_layer_read (layer.Continue target kind id) = leaf (tree.rolls-Continue target kind id)
  terminal_layer_read (layer.Return place id) = leaf (tree.rolls-Return place id)
  terminal_layer_read (layer.Throw place id) = leaf (tree.rolls-Throw place id)
  terminal_layer_read (layer.Switch test cases id) =
      blocks_alone (flat_terminal (next_of found) (layer.Switch test cases id)) (blocks_in_cases cases) _
      (rw (cases_read found cases) (made (tree.rolls-Switch test cases id)))
  terminal_layer_read (layer.DoWhile body test id) =
      rw (value_read (more_blocks found (body ∷ [])) test, block_taken found body)
      (made (tree.rolls-DoWhile body test id))
  terminal_layer_read (layer.While test body id) =
      rw (value_read (more_blocks found (body ∷ [])) test, block_taken found body)
      (made (tree.rolls-While test body id))
  terminal_layer_read (layer.For init test update body id) =
      rw (
        sym (values_join (more_blocks found (body ∷ [])) (nested init) (nested test ++ nested_if update)),
        sym (values_join (more (found) (body ∷ []) (nested init)) (nested test) (nested_if update)),
        value_if_read (more_values (more found (body ∷ []) (nested init)) (nested test)) update,
        value_read (more found (body ∷ []) (nested init)) test,
        block_taken (more_values found (nested init)) body,
        value_read found init,
      ) (made (tree.rolls-For init test update body id))
  terminal_layer_read (layer.ForOf init test body span id) =
      rw (
        sym (values_join (more_blocks found (body ∷ [])) (nested init) (nested test)),
        value_read (more found (body ∷ []) (nested init)) test,
        block_taken (more_values found (nested init)) body,
        value_read found init,
      ) (made (tree.rolls-ForOf init test body span id))
  terminal_layer_read (layer.ForIn init body span id) =
      rw (block_taken (more_values found (nested init)) body, value_read found init)
      (made (tree.rolls-ForIn init body span id))
  terminal_layer_read (layer.If test consequent alternate id) =
      one_by_one (flat_terminal (next_of found) (layer.If test consequent alternate id)) (block_if alternate) consequent _
      (rw (block_taken (more_blocks found (block_if alternate)) consequent, block_if_read found alternate)
      (made (tree.rolls-If test consequent alternate id)))
  terminal_layer_read (layer.Label body id) =
      blocks_alone (flat_terminal (next_of found) (layer.Label body id)) (body ∷ []) _
      (rw (block_taken found body) (made (tree.rolls-Label body id)))
  terminal_layer_read (layer.Try body binding handler id) =
      one_by_one (flat_terminal (next_of found) (layer.Try body binding handler id)) (body ∷ []) handler _
      (rw (block_taken (more_blocks found (body ∷ [])) handler, block_taken found body)
      (made (tree.rolls-Try body binding handler id)))

  pub terminal_read : (x : ReactiveTerminal)
      → terminal_from (flat_terminal (next_of found) (out-ReactiveTerminal x))
      (more found (blocks_in_terminal (out-ReactiveTerminal x)) (values_in_terminal (out-ReactiveTerminal x)))
      ≡ Some (x, found)
  terminal_read x = terminal_layer_read (out-ReactiveTerminal x) ∙ read_is (roll-out-ReactiveTerminal x) refl

-- ---- statements

module _ (found : Found) where
  abbrev IsStatementRead : UnrolledStatement → Type 0
  IsStatementRead l =
      statement_from (flat_statement (next_of found) l) (more found (blocks_in_statement l) (values_in_statement l))
      ≡ Some (roll-ReactiveStatement l, found)

  abbrev IsRowRead : ReactiveInstruction → Found → Type 0
  IsRowRead row w =
      statement_from (flat_statement (next_of found) (layer.Instruction row)) w
      ≡ Some (roll-ReactiveStatement (layer.Instruction row), found)

  statement_layer_read : (l : UnrolledStatement) → IsStatementRead l
  statement_layer_read (layer.Instruction row) =
      subst (λ w. IsRowRead row (more_values w (nested row.value))) (no_blocks found)
      (rw (row_read found row) (read_is (sym (reactive.rolls-Instruction row)) refl))
  statement_layer_read (layer.Terminal x) =
      rw (terminal_read found x.terminal) (read_is (sym (reactive.rolls-Terminal x)) refl)
  statement_layer_read (layer.Scope x) =
      subst (λ w. statement_from (flat_statement (next_of found) (layer.Scope x)) w
      ≡ Some (roll-ReactiveStatement (layer.Scope x), found)) (no_values (more_blocks found (x.instructions ∷ [])))
      (rw (block_taken found x.instructions) (read_is (sym (reactive.rolls-Scope x)) refl))
  statement_layer_read (layer.PrunedScope x) =
      subst (λ w. statement_from (flat_statement (next_of found) (layer.PrunedScope x)) w
      ≡ Some (roll-ReactiveStatement (layer.PrunedScope x), found)) (no_values (more_blocks found (x.instructions ∷ [])))
      (rw (block_taken found x.instructions) (read_is (sym (reactive.rolls-PrunedScope x)) refl))

  pub statement_read : (x : ReactiveStatement)
      → statement_from (flat_statement (next_of found) (out-ReactiveStatement x))
      (more found (blocks_in_statement (out-ReactiveStatement x)) (values_in_statement (out-ReactiveStatement x)))
      ≡ Some (x, found)
  statement_read x = statement_layer_read (out-ReactiveStatement x) ∙ read_is (roll-out-ReactiveStatement x) refl

pub statements_read : (found : Found) (xs : List ReactiveStatement)
    → from_last statement_from (flat_statements (next_of found) xs) (more found (blocks_in xs) (values_in xs))
    ≡ Some (xs, found)
statements_read found [] = read_is refl (sym (none_more found))
statements_read found (x ∷ xs) =
    subst (λ w. from_last statement_from (flat_statements (next_of found) (x ∷ xs)) w ≡ Some (x ∷ xs, found))
    (more_join found (blocks_in_statement (out-ReactiveStatement x)) (blocks_in xs)
    (values_in_statement (out-ReactiveStatement x)) (values_in xs))
    (rw (
      statements_read (more found (blocks_in_statement (out-ReactiveStatement x))
          (values_in_statement (out-ReactiveStatement x))) xs,
      statement_read found x,
    ) refl)
