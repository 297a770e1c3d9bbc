-- A spelled tree has each scope in one scope block: its scopes are among those that its used blocks open, each of which
-- is opened once.
use Rattle.std.proofs.Common.{◌≡◌, ◌∙◌, ◌≤◌, ◌+◌, ℕ, Bool, true, List, [], ◌∷◌, ◌++◌, Option, None, Some}
use Rattle.std.proofs.Common.{option_and_then, option_map, arith, ap}
use Rattle.std.specs.List.{filter_map}
use Rattle.std.proofs.lemmas.List.Elements.{filter_map-append}
use Rattle.rc_names.specs.Numbers.{BlockId, ScopeId, EvaluationOrder, times}
use Rattle.rc_hir.specs.Model.{Environment, HirFunction, Terminal, Case as GraphCase}
use Rattle.rc_tree.specs.Collected.{collected, collected_case, collected_cases, collected_statement}
use Rattle.rc_tree.specs.Model.{ReactiveFunction}
use Rattle.rc_tree.specs.declared.terminal.ReactiveSwitchCase.{roll-ReactiveSwitchCase}
use Rattle.rc_tree.proofs.CollectedLemmas.{collected-case, collected-Scope, collected-PrunedScope, collected-Return}
use Rattle.rc_tree.proofs.CollectedLemmas.{collected-Throw, collected-Switch, collected-DoWhile, collected-While}
use Rattle.rc_tree.proofs.CollectedLemmas.{collected-For, collected-ForOf, collected-ForIn, collected-If}
use Rattle.rc_tree.proofs.CollectedLemmas.{collected-Label, collected-Try}
use Rattle.rc_runs.specs.Frames.{resolve_break, resolve_continue}
use Rattle.rc_runs.specs.Graph.{Block, block_at}
use Rattle.rc_runs.specs.Fallthrough.{label_of}
use Rattle.rc_runs.specs.SimpleStatements.{rows_before}
use Rattle.rc_runs.specs.Grammar.{SpellsList, SpellsRest, SpellsStatement, SpellsTerminal, SpellsCases, SpellsTurns}
use Rattle.rc_runs.specs.Grammar.{from_block, returns, throws, unreachable, breaks, continues, leaves_try}
use Rattle.rc_runs.specs.Grammar.{may_throw_last, may_throw, branch_arms, branch_break, and_rest, if_only, if_else}
use Rattle.rc_runs.specs.Grammar.{label_statement, try_statement, scope_statement, pruned_scope_statement, while_loop}
use Rattle.rc_runs.specs.Grammar.{do_while_loop, for_loop, for_of_loop, for_in_loop, no_cases, one_case}
use Rattle.rc_runs.specs.Grammar.{switch_statement, value_statement, turns, no_rest, has_rest}
use Rattle.rc_runs.specs.ListContext.{ListContext}
use Rattle.rc_runs.specs.LoopParts.{LoopBlocks, LoopParts}
use Rattle.rc_runs.specs.PlainTree.{Statement, Statements, Return, Throw, Switch, DoWhile, While, For, ForOf, ForIn, If}
use Rattle.rc_runs.specs.PlainTree.{Label, Try, Absent, Present, Cases}
use Rattle.rc_runs.specs.Spelled.{Spells, scope_at, scope_named}
use Rattle.rc_runs.specs.TreeOf.{value_of, block_of, cases_of, statement_of}
use Rattle.rc_runs.proofs.GraphLemmas.{usable_block-at}
use Rattle.rc_tree.specs.ScopesIn.{HasScopesOnce, scope_parts, scopes_in}
use Rattle.rc_tree.proofs.DistinctLemmas.{times-append, at_most_once, differ}
use Rattle.rc_checks.proofs.ScopeBlocks.TimesLemmas.{tree_times, tree-Cons}
use Rattle.rc_checks.proofs.ScopeBlocks.TimesLemmas.{labeled_times, alone_times, row_times, tree-rows, jump_times}
use Rattle.rc_checks.proofs.ScopeBlocks.TimesLemmas.{continue_times, part_times, two_times, branch_times}

module _ (hir : HirFunction) (env : Environment) (s : ScopeId) where
  -- how often a terminal opens the scope
  abbrev own_times : Option ScopeId → ℕ
  own_times None = 0
  own_times (Some x) = times s (x ∷ [])

  -- how often used blocks open the scope
  abbrev used_times : List BlockId → ℕ
  used_times used = times s (filter_map (scope_at hir) used)

  used-append : (a b : List BlockId) → used_times (a ++ b) ≡ used_times a + used_times b
  used-append a b = ap (times s) (filter_map-append (scope_at hir) a b)
      ∙ times-append s (filter_map (scope_at hir) a) (filter_map (scope_at hir) b)

  -- a further block opens the scope that its terminal names
  used-cons : (key : BlockId) (found : Block) (used : List BlockId) → block_at hir key ≡ Some found
      → used_times (key ∷ used) ≡ own_times (scope_named found.terminal) + used_times used
  used-cons key found used at = split (scope_named found.terminal) named
    where
      named : scope_at hir key ≡ scope_named found.terminal
      named = ap (option_and_then (λ (b : Block). scope_named b.terminal)) at

      split : (o : Option ScopeId) → scope_at hir key ≡ o → used_times (key ∷ used) ≡ own_times o + used_times used
      split None is = rw is (omega arith)
      split (Some x) is = rw is (omega arith)

  mutual
    -- the scopes of a list are opened by its used blocks
    list_times : {key : BlockId} {context : ListContext} {statements : Statements} {used : List BlockId}
        → SpellsList hir env key context statements used → tree_times s statements ≤ used_times used
    list_times (from_block {key = key} {rest = rest} {used = used} {block = found} usable apart terminal is) =
        let first = used-cons key found used (usable_block-at hir key found usable) in
        let rows : tree_times s (rows_before found.rows rest) ≡ tree_times s rest = tree-rows s found.rows rest in
        rw is (omega (arith, first, rows, terminal_times terminal))

    terminal_times : {terminal : Terminal} {context : ListContext} {statements : Statements} {used : List BlockId}
        → SpellsTerminal hir env terminal context statements used
        → tree_times s statements ≤ own_times (scope_named terminal) + used_times used
    terminal_times (returns {value = value} {id = id}) =
        omega (arith, alone_times s (Return value id) (collected-Return scope_parts value id))
    terminal_times (unreachable {id = id} {span = span}) = omega arith
    terminal_times (breaks {target = target} {id = id} {context = around} {statements = statements} e) =
        omega (arith, jump_times s (resolve_break around.frames target) target id statements e)
    terminal_times (throws {value = value} {id = id} outside) =
        omega (arith, alone_times s (Throw value id) (collected-Throw scope_parts value id))
    terminal_times (continues {target = target} {id = id} {context = around} {statements = statements} e) =
        omega (arith, continue_times s (resolve_continue around.frames target) id statements e)
    terminal_times (leaves_try falls) = omega arith
    terminal_times (may_throw_last current falls) = omega arith
    terminal_times (may_throw current goes d) = omega (arith, list_times d)
    terminal_times (branch_arms {test = test} {id = id} {part = part} {other = other} {part_used = a} {other_used = b}
        d e is) =
        rw is (omega (arith, branch_times s test part other id, used-append a b, list_times d, list_times e))
    terminal_times (branch_break {test = test} {consequent = target} {id = id} {context = around} {part = part}
        {other = other} names e d) =
        omega (
          arith,
          branch_times s test part other id,
          jump_times s (resolve_break around.frames target) target id part e,
          list_times d,
        )
    terminal_times (and_rest {statement = statement} {rest = rest} {part_used = a} {rest_used = b} d r is) =
        rw is (omega (arith, tree-Cons s statement rest, used-append a b, statement_times d, rest_times r))

    statement_times : {terminal : Terminal} {context : ListContext} {o : Bool} {f : BlockId} {statement : Statement}
        {used : List BlockId} → SpellsStatement hir env terminal context o f statement used
        → times s (collected_statement scope_parts (statement_of statement))
        ≤ own_times (scope_named terminal) + used_times used
    statement_times (if_only {test = test} {id = id} {label = own} {part = part} i l same falls d) =
        let x = collected scope_parts (block_of part) in
        omega (
          arith,
          labeled_times s (If test part Absent id) own (collected-If scope_parts test (block_of part) None id),
          times-append s x [],
          part_times s part,
          list_times d,
        )
    statement_times (if_else {test = test} {id = id} {label = own} {part = part} {other = other}
        {part_used = a} {other_used = b} i l same d e is) =
        rw is (omega (
          arith,
          labeled_times s (If test part (Present other) id) own
              (collected-If scope_parts test (block_of part) (Some (block_of other)) id),
          two_times s part other,
          list_times d,
          list_times e,
          used-append a b,
        ))
    statement_times (label_statement {id = id} {label = own} {part = part} i l d) =
        omega (
          arith,
          labeled_times s (Label part id) own (collected-Label scope_parts (block_of part) id),
          part_times s part,
          list_times d,
        )
    statement_times (try_statement {binding = place} {id = id} {label = own} {part = part} {other = other}
        {part_used = a} {other_used = b} i l d e is) =
        rw is (omega (
          arith,
          labeled_times s (Try part place other id) own
              (collected-Try scope_parts (block_of part) place (block_of other) id),
          two_times s part other,
          list_times d,
          list_times e,
          used-append a b,
        ))
    statement_times (scope_statement {scope = of} {part = part} i d) =
        let e = ap (times s) (collected-Scope scope_parts
        (record { scope = of; instructions = block_of part })) in
        omega (arith, e, times-append s (scopes_in (block_of part)) (of ∷ []), part_times s part, list_times d)
    statement_times (pruned_scope_statement {scope = of} {part = part} i d) =
        let e = ap (times s) (collected-PrunedScope scope_parts
        (record { scope = of; instructions = block_of part })) in
        omega (arith, e, part_times s part, list_times d)
    statement_times (switch_statement {test = test} {id = id} {label = own} {parts = parts} o l one past kept last d) =
        omega (
          arith,
          labeled_times s (Switch test parts id) own (collected-Switch scope_parts test (cases_of parts) id),
          cases_times id d,
        )
    statement_times (while_loop {fallthrough = f} {id = id} {parts = parts} reachable d) =
        omega (
          arith,
          labeled_times s (While parts.test parts.body id) (label_of true f)
              (collected-While scope_parts (value_of parts.test) (block_of parts.body) id),
          part_times s parts.body,
          turns_times d,
        )
    statement_times (do_while_loop {fallthrough = f} {id = id} {parts = parts} d) =
        omega (
          arith,
          labeled_times s (DoWhile parts.body parts.test id) (label_of true f)
              (collected-DoWhile scope_parts (block_of parts.body) (value_of parts.test) id),
          times-append s (collected scope_parts (block_of parts.body)) [],
          part_times s parts.body,
          turns_times d,
        )
    statement_times (for_loop {fallthrough = f} {id = id} {init_value = init} {parts = parts} {init_used = a}
        {turns_used = b} v d is) =
        rw is (omega (
          arith,
          labeled_times s (For init parts.test parts.before parts.body id) (label_of true f)
              (collected-For scope_parts (value_of init) (value_of parts.test)
              (option_map value_of parts.before) (block_of parts.body) id),
          times-append s (collected scope_parts (block_of parts.body)) [],
          part_times s parts.body,
          used-append a b,
          turns_times d,
        ))
    statement_times (for_of_loop {fallthrough = f} {id = id} {span = span} {init_value = init} {parts = parts} e d) =
        omega (
          arith,
          labeled_times s (ForOf init parts.test parts.body span id) (label_of true f)
              (collected-ForOf scope_parts (value_of init) (value_of parts.test) (block_of parts.body) span id),
          part_times s parts.body,
          turns_times d,
        )
    statement_times (for_in_loop {fallthrough = f} {id = id} {span = span} {parts = parts} d) =
        omega (
          arith,
          labeled_times s (ForIn parts.test parts.body span id) (label_of true f)
              (collected-ForIn scope_parts (value_of parts.test) (block_of parts.body) span id),
          part_times s parts.body,
          turns_times d,
        )
    statement_times (value_statement {nested = n} opened falls d arm is) =
        omega (arith, row_times s n.id (Some n.answer) n.value n.span)

    cases_times : {cases : List GraphCase} {context : ListContext} {parts : Cases} {used : List BlockId}
        (id : EvaluationOrder) → SpellsCases hir env cases context parts used
        → times s (collected_cases scope_parts id (cases_of parts)) ≤ used_times used
    cases_times id no_cases = omega arith
    cases_times id (one_case {case = case} {part = part} {parts = rest} {later_used = a} {part_used = b} later d is) =
        let first = collected_case scope_parts
        (roll-ReactiveSwitchCase (record { test = case.test; block = Some (block_of part) })) id in
        rw is (omega (
          arith,
          times-append s first (collected_cases scope_parts id (cases_of rest)),
          ap (times s) (collected-case scope_parts case.test (Some (block_of part)) id),
          part_times s part,
          used-append a b,
          list_times d,
          cases_times id later,
        ))

    turns_times : {blocks : LoopBlocks} {context : ListContext} {parts : LoopParts} {used : List BlockId}
        → SpellsTurns hir env blocks context parts used → tree_times s parts.body ≤ used_times used
    turns_times (turns {test_used = a} {before_used = b} {body_used = c} apart again test before d is) =
        rw is (omega (arith, used-append a (b ++ c), used-append b c, list_times d))

    rest_times : {o : Bool} {f : BlockId} {context : ListContext} {statements : Statements} {used : List BlockId}
        → SpellsRest hir env o f context statements used → tree_times s statements ≤ used_times used
    rest_times no_rest = omega arith
    rest_times (has_rest d) = list_times d

  -- the scopes of a spelled block are opened by its used blocks
  pub body_times : {key : BlockId} {context : ListContext} {statements : Statements} {used : List BlockId}
      → SpellsList hir env key context statements used → times s (scopes_in (block_of statements)) ≤ used_times used
  body_times {statements = statements} d = omega (arith, part_times s statements, list_times d)

-- no two scope blocks of a spelled tree have the same scope number
pub spelled_once : (hir : HirFunction) (env : Environment) (func : ReactiveFunction) → Spells hir env func
    → HasScopesOnce func.body
spelled_once hir env func spelled =
    differ (scopes_in func.body) (λ s. rw spelled.whole
    (omega (
      arith,
      body_times hir env s spelled.body.list,
      at_most_once (filter_map (scope_at hir) spelled.body.used) spelled.body.sound.scopes_once s,
    )))
