-- The check of break targets meets no jump in a spelled tree: it enters scopes alone, a break out of a scope is no
-- statement, and a continue has no loop among scopes.
use Rattle.std.proofs.Common.{◌≡◌, ℕ, zero, suc, List, [], ◌∷◌, ◌++◌, flat_map, Bool, true, false}
use Rattle.std.proofs.Common.{if◌then◌else◌, ◌||◌, ◌&&◌, ◌⊎◌, inl, inr, Option, None, Some, Result, Ok, Err, IfErr}
use Rattle.std.proofs.Common.{option_map, refl, sym, ap, ◌∙◌, subst}
use Rattle.rc_names.specs.Numbers.{BlockId, EvaluationOrder, same_id}
use Rattle.rc_names.specs.declared.span.Span.{Span}
use Rattle.rc_hir.specs.Model.{Environment, Fault, HirFunction, Instruction, Place, Terminal}
use Rattle.rc_hir.specs.declared.fault.Fault.TheVariants.{BadTarget, NoMemory}
use Rattle.rc_tree.specs.Model.{ReactiveFunction, ReactiveLabel}
use Rattle.rc_tree.specs.declared.terminal.ReactiveTerminal.{out-ReactiveTerminal}
use Rattle.rc_tree.specs.declared.terminal.ReactiveTerminal.TheVariants as tree
use Rattle.rc_runs.specs.Frames.{resolve_break, resolve_from, resolve_at, resolve_continue, continue_from}
use Rattle.rc_runs.specs.SimpleStatements.{break_statements, continue_statements, rows_before, unlabeled}
use Rattle.rc_runs.specs.Grammar.{SpellsList, SpellsRest, SpellsStatement, SpellsTerminal, from_block, returns, throws}
use Rattle.rc_runs.specs.Grammar.{unreachable, breaks, continues, leaves_try, may_throw_last, may_throw, branch_arms}
use Rattle.rc_runs.specs.Grammar.{branch_break, and_rest, if_only, if_else, label_statement, try_statement}
use Rattle.rc_runs.specs.Grammar.{scope_statement, pruned_scope_statement, switch_statement, while_loop, do_while_loop}
use Rattle.rc_runs.specs.Grammar.{for_loop, for_of_loop, for_in_loop, value_statement, no_rest, has_rest}
use Rattle.rc_runs.specs.ListContext.{ListContext, inside}
use Rattle.rc_runs.specs.PlainTree.{Value, Base, Statement, RowStatement, TerminalStatement, Statements, Nil, Cons}
use Rattle.rc_runs.specs.PlainTree.{TreeTerminal, Return, Throw, Switch, DoWhile, While, For, ForOf, ForIn, If, Label}
use Rattle.rc_runs.specs.PlainTree.{Try, Absent, Present}
use Rattle.rc_runs.specs.Spelled.{Spells}
use Rattle.rc_runs.specs.TreeOf.{value_of, block_of, cases_of, statement_of, statements_of, terminal_of}
use Rattle.rc_runs.specs.declared.frames.Frame.{Frame}
use Rattle.rc_runs.specs.declared.frames.Frame.TheVariants as frame_kinds
use Rattle.rc_runs.specs.declared.frames.BreakResult.{BreakResult}
use Rattle.rc_runs.specs.declared.frames.BreakResult.TheVariants.{NoFrame, LeavesScope, LeavesCase, FallsOff, Breaks}
use Rattle.rc_runs.specs.declared.frames.ContinueResult.{ContinueResult}
use Rattle.rc_runs.specs.declared.frames.ContinueResult.TheVariants.{NoLoop}
use Rattle.rc_checks.specs.BreakTargets.{Terminals, met_in, target_of, IsFirstUnmet, IsJumpTo}
use Rattle.rc_checks.specs.inside.MetStatements.{met_at}
use Rattle.rc_checks.proofs.BreakTargets.MetLemmas.{met_in-statements, met_at-Instruction, met_at-Terminal}
use Rattle.rc_checks.proofs.BreakTargets.MetLemmas.{met_at-Scope, met_at-PrunedScope}

-- none of the terminals is a jump
abbrev NoJumps : Terminals → Type 0
NoJumps [] = Unit {0}
NoJumps (x ∷ xs) = (x.target ≡ None) × NoJumps xs

no_jumps-append : (xs ys : Terminals) → NoJumps xs → NoJumps ys → NoJumps (xs ++ ys)
no_jumps-append [] ys first second = second
no_jumps-append (x ∷ xs) ys first second = (first.0, no_jumps-append xs ys first.1 second)

no_jump_at : (xs : Terminals) (place : ℕ) (target : BlockId) → NoJumps xs → IsJumpTo xs place target → ⊥
no_jump_at [] place target none jumps = let no : ⊥ = cc in no
no_jump_at (x ∷ xs) zero target none jumps =
    let here : x.target ≡ Some target = jumps in let not : x.target ≡ None = none.0 in let no : ⊥ = cc in no
no_jump_at (x ∷ xs) (suc place) target none jumps = no_jump_at xs place target none.1 jumps

-- each frame is that of a scope
abbrev AreScopes : List Frame → Type 0
AreScopes [] = Unit {0}
AreScopes (frame_kinds.Scope of ∷ frames) = AreScopes frames
AreScopes (_ ∷ frames) = ⊥

-- a break among the frames of scopes is no statement
abbrev IsNoBreak : BreakResult → Type 0
IsNoBreak (Breaks kind) = ⊥
IsNoBreak _ = Unit {0}

scopes_way : (innermost taken : Bool) (frames : List Frame) (target : BlockId) → AreScopes frames
    → IsNoBreak (resolve_from innermost taken frames target)
scopes_way innermost taken [] target all = tt
scopes_way innermost taken (frame_kinds.Scope of ∷ frames) target all =
    split (same_id of target) innermost (resolve_from (innermost && false) (taken || false) frames target)
    (scopes_way (innermost && false) (taken || false) frames target all)
  where
    split : (same innermost : Bool) (further : BreakResult) → IsNoBreak further
        → IsNoBreak (if same then resolve_at innermost taken (frame_kinds.Scope of) else further)
    split true true further none = tt
    split true false further none = tt
    split false innermost further none = none
scopes_way innermost taken (_ ∷ frames) target all = absurd all

-- nor has a continue a loop
scopes_continue : (innermost in_loop : Bool) (frames : List Frame) (target : BlockId) → AreScopes frames
    → continue_from innermost in_loop frames target ≡ NoLoop
scopes_continue innermost in_loop [] target all = refl
scopes_continue innermost in_loop (frame_kinds.Scope of ∷ frames) target all =
    scopes_continue (innermost && false) (in_loop || false) frames target all
scopes_continue innermost in_loop (_ ∷ frames) target all = absurd all

-- no jump is met in a list of statements
abbrev Quiet : Statements → Type 0
Quiet statements = NoJumps (flat_map met_at (statements_of statements))

cons_quiet : (statement : Statement) (rest : Statements) → NoJumps (met_at (statement_of statement)) → Quiet rest
    → Quiet (Cons statement rest)
cons_quiet statement rest first later =
    no_jumps-append (met_at (statement_of statement)) (flat_map met_at (statements_of rest)) first later

row_quiet : (id : EvaluationOrder) (place : Option Place) (value : Value) (span : Option Span)
    → NoJumps (met_at (statement_of (RowStatement id place value span)))
row_quiet id place value span =
    subst NoJumps (sym (met_at-Instruction (record { id = id; lvalue = place; value = value_of value; span = span })))
    tt

rows_quiet : (rows : List Instruction) (rest : Statements) → Quiet rest → Quiet (rows_before rows rest)
rows_quiet [] rest later = later
rows_quiet (row ∷ rows) rest later =
    cons_quiet (RowStatement row.id (Some row.lvalue) (Base row.value) row.span) (rows_before rows rest)
    (row_quiet row.id (Some row.lvalue) (Base row.value) row.span) (rows_quiet rows rest later)

-- a terminal that is no jump
still : (terminal : TreeTerminal) (own : Option ReactiveLabel)
    → target_of (out-ReactiveTerminal (terminal_of terminal)) ≡ None
    → NoJumps (met_at (statement_of (TerminalStatement terminal own)))
still terminal own none =
    subst NoJumps (sym (met_at-Terminal (record { terminal = terminal_of terminal; label = own }))) (none, tt)

break_quiet : (way : BreakResult) (target : BlockId) (id : EvaluationOrder) (statements : Statements) → IsNoBreak way
    → break_statements way target id ≡ Some statements → Quiet statements
break_quiet NoFrame target id statements is e = absurd (let no : ⊥ = cc in no)
break_quiet LeavesScope target id statements is e = absurd (let no : ⊥ = cc in no)
break_quiet LeavesCase target id statements is e = absurd (let no : ⊥ = cc in no)
break_quiet FallsOff target id statements is e = subst Quiet (let same : Nil ≡ statements = cc in same) tt
break_quiet (Breaks kind) target id statements is e = absurd is

-- one that is a statement alone
still_alone : (terminal : TreeTerminal) → target_of (out-ReactiveTerminal (terminal_of terminal)) ≡ None
    → Quiet (unlabeled terminal)
still_alone terminal none = cons_quiet (TerminalStatement terminal None) Nil (still terminal None none) tt

branch_quiet : (test : Place) (part other : Statements) (id : EvaluationOrder)
    → Quiet (unlabeled (If test part (Present other) id))
branch_quiet test part other id =
    still_alone (If test part (Present other) id)
    (ap target_of (tree.outs-If test (block_of part) (Some (block_of other)) id))

continue_quiet : (result : ContinueResult) (id : EvaluationOrder) (statements : Statements) → result ≡ NoLoop
    → continue_statements result id ≡ Some statements → Quiet statements
continue_quiet result id statements none e =
    let found : continue_statements NoLoop id ≡ Some statements =
    ap (λ r. continue_statements r id) (sym none) ∙ e in
    absurd (let no : ⊥ = cc in no)

-- the frames inside a scope
inside_scopes : (opened : Bool) (fallthrough : BlockId) (context : ListContext) → AreScopes context.frames
    → AreScopes (inside opened (frame_kinds.Scope fallthrough) context).frames
inside_scopes true fallthrough context all = all
inside_scopes false fallthrough context all = all

block_quiet : (part : Statements) → Quiet part → NoJumps (met_in (block_of part))
block_quiet part quiet = subst NoJumps (sym (met_in-statements (block_of part))) quiet

module _ {hir : HirFunction} {env : Environment} where
  mutual
    quiet_list : {key : BlockId} {context : ListContext} {statements : Statements} {used : List BlockId} →
        SpellsList hir env key context statements used → AreScopes context.frames → Quiet statements
    quiet_list (from_block {rest = rest} {block = b} usable live d w) all =
        subst Quiet (sym w) (rows_quiet b.rows rest (quiet_terminal d all))

    quiet_terminal : {terminal : Terminal} {context : ListContext} {statements : Statements} {used : List BlockId} →
        SpellsTerminal hir env terminal context statements used → AreScopes context.frames → Quiet statements
    quiet_terminal (returns {value = value} {id = id}) all =
        still_alone (Return value id) (ap target_of (tree.outs-Return value id))
    quiet_terminal (throws {value = value} {id = id} outside) all =
        still_alone (Throw value id) (ap target_of (tree.outs-Throw value id))
    quiet_terminal unreachable all = tt
    quiet_terminal (breaks {target = target} {id = id} {context = context} {statements = statements} e) all =
        break_quiet (resolve_break context.frames target) target id statements
        (scopes_way true false context.frames target all) e
    quiet_terminal (continues {target = target} {id = id} {context = context} {statements = statements} e) all =
        continue_quiet (resolve_continue context.frames target) id statements
        (scopes_continue true false context.frames target all) e
    quiet_terminal (leaves_try falls) all = tt
    quiet_terminal (may_throw_last current falls) all = tt
    quiet_terminal (may_throw current goes d) all = quiet_list d all
    quiet_terminal (branch_arms {test = test} {id = id} {part = part} {other = other} d d' e) all =
        branch_quiet test part other id
    quiet_terminal (branch_break {test = test} {id = id} {part = part} {other = other} names e d) all =
        branch_quiet test part other id
    quiet_terminal (and_rest {statement = statement} {rest = rest} d r w) all =
        cons_quiet statement rest (quiet_statement d all) (quiet_rest r all)

    quiet_statement : {terminal : Terminal} {context : ListContext} {o : Bool} {f : BlockId} {statement : Statement}
        {used : List BlockId} →
        SpellsStatement hir env terminal context o f statement used → AreScopes context.frames
        → NoJumps (met_at (statement_of statement))
    quiet_statement (if_only {test = test} {id = id} {label = own} {part = part} i l s falls d) all =
        still (If test part Absent id) own (ap target_of (tree.outs-If test (block_of part) None id))
    quiet_statement (if_else {test = test} {id = id} {label = own} {part = part} {other = other} i l s d e w) all =
        still (If test part (Present other) id) own (ap target_of
        (tree.outs-If test (block_of part) (Some (block_of other)) id))
    quiet_statement (label_statement {id = id} {label = own} {part = part} i l d) all =
        still (Label part id) own (ap target_of (tree.outs-Label (block_of part) id))
    quiet_statement (try_statement {binding = place} {id = id} {label = own} {part = part} {other = other} i l d e w)
        all =
        still (Try part place other id) own (ap target_of (tree.outs-Try (block_of part) place (block_of other) id))
    quiet_statement (scope_statement {fallthrough = f} {scope = of} {context = context} {opened = o} {part = part} i d)
        all =
        subst NoJumps (sym (met_at-Scope (record { scope = of; instructions = block_of part })))
        (block_quiet part (quiet_list d (inside_scopes o f context all)))
    quiet_statement (pruned_scope_statement {fallthrough = f} {scope = of} {context = context} {opened = o}
        {part = part} i d) all =
        subst NoJumps (sym (met_at-PrunedScope (record { scope = of; instructions = block_of part })))
        (block_quiet part (quiet_list d (inside_scopes o f context all)))
    quiet_statement (switch_statement {test = test} {id = id} {label = own} {parts = parts} o l one past kept last d)
        all =
        still (Switch test parts id) own (ap target_of (tree.outs-Switch test (cases_of parts) id))
    quiet_statement (while_loop {id = id} {parts = parts} reachable d) all =
        still (While parts.test parts.body id) _
        (ap target_of (tree.outs-While (value_of parts.test) (block_of parts.body) id))
    quiet_statement (do_while_loop {id = id} {parts = parts} d) all =
        still (DoWhile parts.body parts.test id) _
        (ap target_of (tree.outs-DoWhile (block_of parts.body) (value_of parts.test) id))
    quiet_statement (for_loop {id = id} {init_value = init} {parts = parts} d d' e) all =
        still (For init parts.test parts.before parts.body id) _
        (ap target_of (tree.outs-For (value_of init) (value_of parts.test) (option_map value_of parts.before)
        (block_of parts.body) id))
    quiet_statement (for_of_loop {id = id} {span = span} {init_value = init} {parts = parts} e d) all =
        still (ForOf init parts.test parts.body span id) _
        (ap target_of (tree.outs-ForOf (value_of init) (value_of parts.test) (block_of parts.body) span id))
    quiet_statement (for_in_loop {id = id} {span = span} {parts = parts} d) all =
        still (ForIn parts.test parts.body span id) _
        (ap target_of (tree.outs-ForIn (value_of parts.test) (block_of parts.body) span id))
    quiet_statement (value_statement {nested = n} opened falls d arm used) all =
        row_quiet n.id (Some n.answer) n.value n.span

    quiet_rest : {o : Bool} {f : BlockId} {context : ListContext} {statements : Statements} {used : List BlockId} →
        SpellsRest hir env o f context statements used → AreScopes context.frames → Quiet statements
    quiet_rest no_rest all = tt
    quiet_rest (has_rest d) all = quiet_list d all

-- no jump is met in a spelled function
no_jump_is_met : (hir : HirFunction) (env : Environment) (func : ReactiveFunction) → Spells hir env func → (place : ℕ)
    (target : BlockId) → IsJumpTo (met_in func.body) place target → ⊥
no_jump_is_met hir env func spelled place target jumps =
    let same : met_in func.body ≡ met_in (block_of spelled.statements) = ap (λ f. met_in f.body) spelled.whole in
    no_jump_at (met_in (block_of spelled.statements)) place target
    (block_quiet spelled.statements (quiet_list spelled.body.list tt))
    (subst (λ met. IsJumpTo met place target) same jumps)

-- so the check of a spelled function fails only when out of memory
pub only_memory : (hir : HirFunction) (env : Environment) (func : ReactiveFunction)
    (result : Result (Unit {0}) Fault) → ((target : BlockId) → result ≡ Err (BadTarget target)
    → IsFirstUnmet (met_in func.body) target)
    → IfErr result (λ fault. (fault ≡ NoMemory) ⊎ ((target : BlockId) × (fault ≡ BadTarget target)))
    → Spells hir env func → IfErr result (λ fault. fault ≡ NoMemory)
only_memory hir env func (Ok done) first only spelled = tt
only_memory hir env func (Err fault) first (inl memory) spelled = memory
only_memory hir env func (Err fault) first (inr bad) spelled =
    let unmet = first bad.0 (ap (λ f. Err f) bad.1) in
    absurd (no_jump_is_met hir env func spelled unmet.place bad.0 unmet.jumps)
