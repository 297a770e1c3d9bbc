-- The numbers of a spelled tree are in their tables if those of its graph are; none of them is a row's.
use Rattle.std.proofs.Common.{◌≡◌, Bool, true, false, List, [], ◌∷◌, Some, if◌then◌else◌, sym, subst}
use Rattle.std.specs.List.{flat_map}
use Rattle.rc_names.specs.Numbers.{BlockId, EvaluationOrder}
use Rattle.rc_hir.specs.GraphNames.{case_names, place_names, terminal_names}
use Rattle.rc_hir.specs.ValueNames.{value_names}
use Rattle.rc_hir.specs.Names.{FunctionInTables}
use Rattle.rc_hir.specs.Model.{Environment, HirFunction, Instruction, Terminal, Case as GraphCase}
use Rattle.rc_tree.specs.Model.{ReactiveFunction}
use Rattle.rc_tree.specs.TreeNames.{names_in}
use Rattle.rc_runs.specs.ListContext.{ListContext}
use Rattle.rc_runs.specs.LoopParts.{LoopBlocks, LoopParts}
use Rattle.rc_runs.specs.SwitchCases.{is_kept, kept_cases}
use Rattle.rc_runs.specs.SimpleStatements.{break_statements, continue_statements, rows_before, unlabeled}
use Rattle.rc_runs.specs.Grammar.{SpellsList, SpellsRest, SpellsStatement, SpellsTerminal, SpellsCases, SpellsTurns}
use Rattle.rc_runs.specs.Grammar.{from_block, returns, throws, unreachable, breaks, continues, leaves_try}
use Rattle.rc_runs.specs.Grammar.{may_throw_last, may_throw, branch_arms, branch_break, and_rest, if_only, if_else}
use Rattle.rc_runs.specs.Grammar.{label_statement, try_statement, scope_statement, pruned_scope_statement}
use Rattle.rc_runs.specs.Grammar.{switch_statement, while_loop, do_while_loop, for_loop, for_of_loop, for_in_loop}
use Rattle.rc_runs.specs.Grammar.{no_cases, one_case, value_statement, turns, no_rest, has_rest}
use Rattle.rc_runs.specs.PlainTree.{Statement, Statements, Nil, Break, Continue, Cases}
use Rattle.rc_runs.specs.Spelled.{Spells}
use Rattle.rc_runs.specs.Frames.{resolve_break, resolve_continue}
use Rattle.rc_runs.specs.declared.frames.BreakResult.{BreakResult}
use Rattle.rc_runs.specs.declared.frames.BreakResult.TheVariants.{NoFrame, LeavesScope, LeavesCase, FallsOff, Breaks}
use Rattle.rc_runs.specs.declared.frames.ContinueResult.{ContinueResult}
use Rattle.rc_runs.specs.declared.frames.ContinueResult.TheVariants.{NoLoop, Continues}
use Rattle.rc_runs.proofs.AllLemmas.{All-left, All-right}
use Rattle.rc_runs.proofs.BlockNames.{InTable, Held, RowsHeld, InGraph, HeldByGraph, place_held, option_place_held}
use Rattle.rc_runs.proofs.BlockNames.{case_held, scope_held, usable_block_held}
use Rattle.rc_runs.proofs.PlainNames.{HeldValue, HeldOption, HeldStatements, HeldStatement, HeldCases, block_held}
use Rattle.rc_runs.proofs.SpelledValueNames.{nested_value_held, going_held, test_held, before_held}

module _ (env : Environment) where
  -- rows, and the statements after them
  rows_first : (rows : List Instruction) (rest : Statements) → RowsHeld env rows → HeldStatements env rest →
      HeldStatements env (rows_before rows rest)
  rows_first [] rest held later = later
  rows_first (row ∷ rows) rest held later = (
    (
      All-left (InTable env) (place_names row.lvalue) (value_names row.value) held.0,
      All-right (InTable env) (place_names row.lvalue) (value_names row.value) held.0,
    ),
    rows_first rows rest held.1 later,
  )

  -- a break and a continue have no number of a table
  break_held : (result : BreakResult) (target : BlockId) (id : EvaluationOrder) (statements : Statements) →
      break_statements result target id ≡ Some statements → HeldStatements env statements
  break_held NoFrame target id statements e = absurd (let no : ⊥ = cc in no)
  break_held LeavesScope target id statements e = absurd (let no : ⊥ = cc in no)
  break_held LeavesCase target id statements e = absurd (let no : ⊥ = cc in no)
  break_held FallsOff target id statements e =
      subst (HeldStatements env) (let same : Nil ≡ statements = cc in same) tt
  break_held (Breaks kind) target id statements e =
      subst (HeldStatements env) (let same : unlabeled (Break target kind id) ≡ statements = cc in same) (tt, tt)

  continue_held : (result : ContinueResult) (id : EvaluationOrder) (statements : Statements) →
      continue_statements result id ≡ Some statements → HeldStatements env statements
  continue_held NoLoop id statements e = absurd (let no : ⊥ = cc in no)
  continue_held (Continues target kind) id statements e =
      subst (HeldStatements env) (let same : unlabeled (Continue target kind id) ≡ statements = cc in same) (tt, tt)

module _ (hir : HirFunction) (env : Environment) where
  -- the numbers of these cases
  abbrev CasesHeld : List GraphCase → Type 0
  CasesHeld [] = Unit {0}
  CasesHeld (case ∷ cases) = Held env (case_names case) × CasesHeld cases

  kept_held : (is_target : Bool) (fallthrough : BlockId) (cases : List GraphCase) →
      HeldByGraph hir env (flat_map case_names cases) → CasesHeld (kept_cases is_target fallthrough cases)
  kept_held is_target fallthrough [] held = tt
  kept_held is_target fallthrough (case ∷ cases) held =
      go (is_kept is_target fallthrough case)
      (case_held hir env case (All-left (InGraph hir env) (case_names case) (flat_map case_names cases) held))
      (kept_held is_target fallthrough cases
      (All-right (InGraph hir env) (case_names case) (flat_map case_names cases) held))
    where
      go : (kept : Bool) → Held env (case_names case) → CasesHeld (kept_cases is_target fallthrough cases) →
          CasesHeld (if kept then case ∷ kept_cases is_target fallthrough cases
          else kept_cases is_target fallthrough cases)
      go true first later = (first, later)
      go false first later = later

module _ (hir : HirFunction) (env : Environment) (named : FunctionInTables env hir) where
  mutual
    list_held : {key : BlockId} {context : ListContext} {statements : Statements} {used : List BlockId} →
        SpellsList hir env key context statements used → HeldStatements env statements
    list_held (from_block {key = key} {rest = rest} {block = b} usable apart d e) =
        let here = usable_block_held hir env named key b usable in
        subst (HeldStatements env) (sym e) (rows_first env b.rows rest here.0 (terminal_held here.1 d))

    terminal_held : {terminal : Terminal} {context : ListContext} {statements : Statements} {used : List BlockId} →
        HeldByGraph hir env (terminal_names terminal) → SpellsTerminal hir env terminal context statements used →
        HeldStatements env statements
    terminal_held held (returns {value = value}) = (place_held hir env value held, tt)
    terminal_held held (throws {value = value} outside) = (place_held hir env value held, tt)
    terminal_held held unreachable = tt
    terminal_held held (breaks {target = target} {id = id} {context = around} {statements = statements} e) =
        break_held env (resolve_break around.frames target) target id statements e
    terminal_held held (continues {target = target} {id = id} {context = around} {statements = statements} e) =
        continue_held env (resolve_continue around.frames target) id statements e
    terminal_held held (leaves_try next) = tt
    terminal_held held (may_throw_last current next) = tt
    terminal_held held (may_throw current next d) = list_held d
    terminal_held held (branch_arms {test = test} d other e) =
        ((place_held hir env test held, list_held d, list_held other), tt)
    terminal_held held (branch_break {test = test} {consequent = consequent} {id = id} {context = around}
        {part = part} names e other) =
        let jump = break_held env (resolve_break around.frames consequent) consequent id part e in
        ((place_held hir env test held, jump, list_held other), tt)
    terminal_held held (and_rest d r e) = (statement_held held d, rest_held r)

    statement_held : {terminal : Terminal} {context : ListContext} {opened : Bool} {fallthrough : BlockId}
        {statement : Statement} {used : List BlockId} → HeldByGraph hir env (terminal_names terminal) →
        SpellsStatement hir env terminal context opened fallthrough statement used → HeldStatement env statement
    statement_held held (if_only {test = test} o l same falls d) = (place_held hir env test held, list_held d, tt)
    statement_held held (if_else {test = test} o l same d other e) =
        (place_held hir env test held, list_held d, list_held other)
    statement_held held (label_statement o l d) = list_held d
    statement_held held (try_statement {binding = binding} o l d other e) =
        (list_held d, option_place_held hir env binding held, list_held other)
    statement_held held (scope_statement {scope = scope} o d) = (scope_held hir env scope held, list_held d)
    statement_held held (pruned_scope_statement {scope = scope} o d) = (scope_held hir env scope held, list_held d)
    statement_held held (switch_statement {test = test} {cases = cases} o l one past kept_are default d) =
        let kept = kept_held hir env _ _ cases
        (All-right (InGraph hir env) (place_names test) (flat_map case_names cases) held) in (
          place_held hir env test
              (All-left (InGraph hir env) (place_names test) (flat_map case_names cases) held),
          cases_held (subst (CasesHeld hir env) (sym kept_are) kept) d,
        )
    statement_held held (while_loop reachable d) = let parts = turns_held d in (parts.1, parts.2)
    statement_held held (do_while_loop d) = let parts = turns_held d in (parts.2, parts.1)
    statement_held held (for_loop init d e) =
        let parts = turns_held d in (going_held hir env named init, parts.1, parts.2, parts.0)
    statement_held held (for_of_loop before d) =
        let parts = turns_held d in (subst (HeldOption env) before parts.0, parts.1, parts.2)
    statement_held held (for_in_loop d) = let parts = turns_held d in (parts.1, parts.2)
    statement_held held (value_statement opened reached d arm e) =
        let own = nested_value_held hir env named d in (own.1, own.0)

    cases_held : {cases : List GraphCase} {context : ListContext} {parts : Cases} {used : List BlockId} →
        CasesHeld hir env cases → SpellsCases hir env cases context parts used → HeldCases env parts
    cases_held held no_cases = tt
    cases_held held (one_case later d e) = (held.0, list_held d, cases_held held.1 later)

    turns_held : {blocks : LoopBlocks} {context : ListContext} {parts : LoopParts} {used : List BlockId} →
        SpellsTurns hir env blocks context parts used →
        HeldOption env parts.before × HeldValue env parts.test × HeldStatements env parts.body
    turns_held (turns apart again test before d e) =
        (before_held hir env named before, test_held hir env named test, list_held d)

    rest_held : {opened : Bool} {fallthrough : BlockId} {context : ListContext} {statements : Statements}
        {used : List BlockId} → SpellsRest hir env opened fallthrough context statements used →
        HeldStatements env statements
    rest_held no_rest = tt
    rest_held (has_rest d) = list_held d

  -- the numbers of a spelled function's body are in their tables
  pub spelled_names_held : (func : ReactiveFunction) → Spells hir env func → Held env (names_in func.body)
  spelled_names_held func spelled =
      subst (λ f. Held env (names_in f.body)) (sym spelled.whole)
      (block_held env spelled.statements (list_held spelled.body.list))
