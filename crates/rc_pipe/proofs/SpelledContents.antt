-- What holds of all labels, jumps and scope blocks of a spelled tree: labels and the targets of jumps are blocks that
-- its graph has, and a scope block is opened by a terminal of the graph that isn't pruned.
use Rattle.std.proofs.Common.{◌≡◌, ◌∙◌, Bool, true, false, List, [], ◌∷◌, ◌++◌, All, Option, None, Some}
use Rattle.std.proofs.Common.{if◌then◌else◌, true≢false, ◌||◌, ◌&&◌, refl, sym, ap, subst}
use Rattle.std.proofs.lemmas.List.Elements.{All-append, All-nil}
use Rattle.rc_hir.specs.Model.{Case as GraphCase, Environment, HirFunction, Instruction, Place, Terminal}
use Rattle.rc_hir.specs.declared.terminal.Terminal.TheVariants as terminals
use Rattle.rc_names.proofs.NumbersLemmas.{same_id-eq}
use Rattle.rc_names.specs.Numbers.{BlockId, EvaluationOrder, ScopeId}
use Rattle.rc_names.specs.declared.span.Span.{Span}
use Rattle.rc_runs.specs.Fallthrough.{label_of}
use Rattle.rc_runs.specs.Frames.{break_block, continue_at, continue_block, continue_from, is_block, is_loop, is_mark}
use Rattle.rc_runs.specs.Frames.{resolve_at, resolve_break, resolve_continue, resolve_from, takes_unlabeled}
use Rattle.rc_runs.specs.Grammar.{SpellsList, SpellsRest, SpellsStatement, SpellsTerminal, SpellsCases, SpellsTurns}
use Rattle.rc_runs.specs.Grammar.{from_block, returns, throws, unreachable, breaks, continues, leaves_try}
use Rattle.rc_runs.specs.Grammar.{may_throw_last, may_throw, branch_arms, branch_break, and_rest, if_only, if_else}
use Rattle.rc_runs.specs.Grammar.{label_statement, try_statement, scope_statement, pruned_scope_statement}
use Rattle.rc_runs.specs.Grammar.{switch_statement, while_loop, do_while_loop, for_loop, for_of_loop, for_in_loop}
use Rattle.rc_runs.specs.Grammar.{no_cases, one_case, value_statement, turns, no_rest, has_rest}
use Rattle.rc_runs.specs.Graph.{Block, usable_block}
use Rattle.rc_runs.specs.ListContext.{ListContext, inside}
use Rattle.rc_runs.specs.LoopParts.{LoopBlocks, LoopParts}
use Rattle.rc_runs.specs.PlainTree.{Value, Base, Statement, RowStatement, TerminalStatement, Statements, Nil, Cons}
use Rattle.rc_runs.specs.PlainTree.{TreeTerminal, Break, Continue, Return, Throw, Switch, DoWhile, While, For, ForOf}
use Rattle.rc_runs.specs.PlainTree.{ForIn, If, Label, Try, Absent, Present, Cases}
use Rattle.rc_runs.specs.SimpleStatements.{break_statements, continue_statements, rows_before, unlabeled}
use Rattle.rc_runs.specs.Spelled.{Spells}
use Rattle.rc_runs.specs.SwitchCases.{case_context}
use Rattle.rc_runs.specs.TreeOf.{block_of, cases_of, statement_of, statements_of, terminal_of, value_of}
use Rattle.rc_runs.specs.declared.frames.BreakResult.{BreakResult}
use Rattle.rc_runs.specs.declared.frames.BreakResult.TheVariants.{NoFrame, LeavesScope, LeavesCase, FallsOff, Breaks}
use Rattle.rc_runs.specs.declared.frames.ContinueResult.{ContinueResult}
use Rattle.rc_runs.specs.declared.frames.ContinueResult.TheVariants.{NoLoop, Continues}
use Rattle.rc_runs.specs.declared.frames.Frame.{Frame}
use Rattle.rc_runs.specs.declared.frames.Frame.TheVariants as frame_kinds
use Rattle.rc_tree.proofs.CollectedLemmas.{collected-block, collected-case, collected-Instruction, collected-Terminal}
use Rattle.rc_tree.proofs.CollectedLemmas.{collected-Scope, collected-PrunedScope, collected-Break, collected-Continue}
use Rattle.rc_tree.proofs.CollectedLemmas.{collected-Return, collected-Throw, collected-Switch, collected-DoWhile}
use Rattle.rc_tree.proofs.CollectedLemmas.{collected-While, collected-For, collected-ForOf, collected-ForIn}
use Rattle.rc_tree.proofs.CollectedLemmas.{collected-If, collected-Label, collected-Try}
use Rattle.rc_tree.specs.Collected.{Contributions, collected, collected_cases, collected_list}
use Rattle.rc_tree.specs.Collected.{collected_statement, collected_terminal}
use Rattle.rc_tree.specs.Joining.{lists}
use Rattle.rc_tree.specs.Model.{ReactiveFunction, ReactiveLabel, ReactiveTerminalTargetKind as Kind}

-- the scope of a scope block that the terminal opens
abbrev pub scope_opened : Terminal → Option ScopeId
scope_opened (terminals.Scope fallthrough block scope id span) = Some scope
scope_opened _ = None

-- what labels, jumps and scope blocks contribute, where nothing else does
abbrev pub marks : {X : Type 0} → (Option ReactiveLabel → List X) → (BlockId → List X) → (ScopeId → List X → List X)
    → Contributions (List X)
marks label jump scope = record {
  joining = lists;
  row = λ x. [];
  value = λ id x. [];
  place = λ id x. [];
  returned = λ id x. [];
  jump = jump;
  label = label;
  scope = scope;
  pruned_scope = λ scope inside. inside;
}

module _ (hir : HirFunction) where
  -- the graph has the block, and a tree may use it
  abbrev pub IsKey : BlockId → Type 0
  IsKey key = (block : Block) × (usable_block hir key ≡ Some block)

  abbrev IsKeyIf : Option BlockId → Type 0
  IsKeyIf None = Unit {0}
  IsKeyIf (Some key) = IsKey key

  -- a block that is opened is one of the graph's
  abbrev pub IsOpened : Bool → Option BlockId → Type 0
  IsOpened false key = Unit {0}
  IsOpened true key = IsKeyIf key

  -- the terminal is that of a block of the graph
  abbrev pub IsTerminal : Terminal → Type 0
  IsTerminal terminal =
      (key : BlockId) × (block : Block) × (usable_block hir key ≡ Some block) × (block.terminal ≡ terminal)

  -- a terminal of the graph opens a scope block of the scope
  abbrev pub Opens : ScopeId → Type 0
  Opens scope = (key : BlockId) × (block : Block) × (usable_block hir key ≡ Some block)
      × (scope_opened block.terminal ≡ Some scope)

  -- the blocks that breaks out of the frames name are the graph's
  abbrev AreKeys : List Frame → Type 0
  AreKeys [] = Unit {0}
  AreKeys (frame ∷ frames) = IsKeyIf (break_block frame) × AreKeys frames

  inside_keys : (opened : Bool) (frame : Frame) (context : ListContext) → IsOpened opened (break_block frame)
      → AreKeys context.frames → AreKeys (inside opened frame context).frames
  inside_keys true frame context key keys = (key, keys)
  inside_keys false frame context key keys = keys

  named : (block : Option BlockId) (key : BlockId) → is_block block key ≡ true → IsKeyIf block → IsKey key
  named None key is held = absurd (true≢false (sym is))
  named (Some block) key is held = subst IsKey (same_id-eq block key is) held

  -- a break names a block of a frame, and so does a continue
  break_key : (innermost taken : Bool) (frames : List Frame) (key : BlockId) (kind : Kind)
      → AreKeys frames → resolve_from innermost taken frames key ≡ Breaks kind → IsKey key
  break_key innermost taken [] key kind keys is = absurd (let no : ⊥ = cc in no)
  break_key innermost taken (frame ∷ frames) key kind keys is =
      by (break_key (innermost && is_mark frame) (taken || takes_unlabeled frame) frames key kind keys.1)
      (is_block (break_block frame) key) refl is
    where
      by : (resolve_from (innermost && is_mark frame) (taken || takes_unlabeled frame) frames key ≡ Breaks kind
          → IsKey key) → (here : Bool) → is_block (break_block frame) key ≡ here
          → (if here then resolve_at innermost taken frame
          else resolve_from (innermost && is_mark frame) (taken || takes_unlabeled frame) frames key) ≡ Breaks kind
          → IsKey key
      by further true here is = named (break_block frame) key here keys.0
      by further false here is = further is

  loop_key : (innermost in_loop : Bool) (frame : Frame) (target : BlockId) (kind : Kind) → IsKeyIf (break_block frame)
      → continue_at innermost in_loop frame ≡ Continues target kind → IsKey target
  loop_key innermost in_loop (frame_kinds.Loop block again) target kind held is =
      subst IsKey (let same : block ≡ target = cc in same) held
  loop_key innermost in_loop frame target kind held is = absurd (let no : ⊥ = cc in no)

  continue_key : (innermost in_loop : Bool) (frames : List Frame) (key target : BlockId) (kind : Kind) → AreKeys frames
      → continue_from innermost in_loop frames key ≡ Continues target kind → IsKey target
  continue_key innermost in_loop [] key target kind keys is = absurd (let no : ⊥ = cc in no)
  continue_key innermost in_loop (frame ∷ frames) key target kind keys is =
      by (continue_key (innermost && is_mark frame) (in_loop || is_loop frame) frames key target kind keys.1)
      (is_block (continue_block frame) key) is
    where
      by : (continue_from (innermost && is_mark frame) (in_loop || is_loop frame) frames key ≡ Continues target kind
          → IsKey target) → (here : Bool) → (if here then continue_at innermost in_loop frame
          else continue_from (innermost && is_mark frame) (in_loop || is_loop frame) frames key)
          ≡ Continues target kind → IsKey target
      by further true is = loop_key innermost in_loop frame target kind keys.0 is
      by further false is = further is

module _ (hir : HirFunction) (env : Environment) where
  key_of : {key : BlockId} {context : ListContext} {statements : Statements} {used : List BlockId}
      → SpellsList hir env key context statements used → IsKey hir key
  key_of (from_block {block = block} usable apart terminal is) = (block, usable)

  opened_of : {opened : Bool} {key : BlockId} {context : ListContext} {statements : Statements} {used : List BlockId}
      → SpellsRest hir env opened key context statements used → IsOpened hir opened (Some key)
  opened_of no_rest = tt
  opened_of (has_rest d) = key_of d

  -- falling off a case reaches the block of the next one
  cases_keys : {cases : List GraphCase} {context : ListContext} {parts : Cases} {used : List BlockId}
      → SpellsCases hir env cases context parts used → AreKeys hir context.frames
      → AreKeys hir (case_context cases context).frames
  cases_keys no_cases keys = keys
  cases_keys (one_case later d e) keys = (key_of d, cases_keys later keys)

module _ {X : Type 0} (P : X → Type 0) (label : Option ReactiveLabel → List X) (jump : BlockId → List X)
    (scope : ScopeId → List X → List X) where
  abbrev parts : Contributions (List X)
  parts = marks label jump scope

  abbrev AllOf : Statements → Type 0
  AllOf statements = All P (collected_list parts (statements_of statements))

  abbrev AllOfStatement : Statement → Type 0
  AllOfStatement statement = All P (collected_statement parts (statement_of statement))

  abbrev AllOfPart : Statements → Type 0
  AllOfPart part = All P (collected parts (block_of part))

  -- what the property holds of, where that is the same list
  of_same : {xs ys : List X} → xs ≡ ys → All P ys → All P xs
  of_same e all = subst (All P) (sym e) all

  none : All P []
  none = All-nil P

  more : (statement : Statement) (rest : Statements) → AllOfStatement statement → AllOf rest
      → AllOf (Cons statement rest)
  more statement rest here later = All-append P (collected_statement parts (statement_of statement))
      (collected_list parts (statements_of rest)) here later

  part_of : (part : Statements) → AllOf part → AllOfPart part
  part_of part all = of_same (collected-block parts (block_of part)) all

  row_of : (id : EvaluationOrder) (target : Option Place) (value : Value) (span : Option Span)
      → AllOfStatement (RowStatement id target value span)
  row_of id target value span = of_same
      (collected-Instruction parts (record { id = id; lvalue = target; value = value_of value; span = span })) none

  rows_first : (rows : List Instruction) (rest : Statements) → AllOf rest → AllOf (rows_before rows rest)
  rows_first [] rest all = all
  rows_first (row ∷ rows) rest all =
      more (RowStatement row.id (Some row.lvalue) (Base row.value) row.span) (rows_before rows rest)
      (row_of row.id (Some row.lvalue) (Base row.value) row.span) (rows_first rows rest all)

  labeled : (terminal : TreeTerminal) (own : Option ReactiveLabel) {xs : List X}
      → collected_terminal parts (terminal_of terminal) ≡ xs → All P (label own) → All P xs
      → AllOfStatement (TerminalStatement terminal own)
  labeled terminal own {xs} e names all =
      of_same (collected-Terminal parts (record { terminal = terminal_of terminal; label = own })
      ∙ ap (λ inside. label own ++ inside) e) (All-append P (label own) xs names all)

  alone : (terminal : TreeTerminal) {xs : List X} → collected_terminal parts (terminal_of terminal) ≡ xs
      → All P (label None) → All P xs → AllOf (unlabeled terminal)
  alone terminal e names all = more (TerminalStatement terminal None) Nil (labeled terminal None e names all) none

  two : (first second : List X) → All P first → All P second → All P (first ++ second)
  two = All-append P

  branch : (test : Place) (part other : Statements) (id : EvaluationOrder) → All P (label None) → AllOf part
      → AllOf other → AllOf (unlabeled (If test part (Present other) id))
  branch test part other id names first second = alone (If test part (Present other) id)
      (collected-If parts test (block_of part) (Some (block_of other)) id) names
      (two (collected parts (block_of part)) (collected parts (block_of other)) (part_of part first)
      (part_of other second))

  module _ (hir : HirFunction) (env : Environment)
      (of_label : (opened : Bool) (key : BlockId) → IsOpened hir opened (Some key)
      → All P (label (label_of opened key)))
      (of_jump : (key : BlockId) → IsKey hir key → All P (jump key))
      (of_scope : (opened : ScopeId) (inside : List X) → Opens hir opened → All P inside
      → All P (scope opened inside)) where
    unnamed : All P (label None)
    unnamed = of_label false hir.body.entry tt

    own_label : (opened : Bool) (key : BlockId) {own : Option ReactiveLabel} → own ≡ label_of opened key
        → IsOpened hir opened (Some key) → All P (label own)
    own_label opened key e is = subst (λ own. All P (label own)) (sym e) (of_label opened key is)

    break_held : (way : BreakResult) (target : BlockId) (id : EvaluationOrder) (statements : Statements)
        → ((kind : Kind) → way ≡ Breaks kind → IsKey hir target) → break_statements way target id ≡ Some statements
        → AllOf statements
    break_held NoFrame target id statements key e = absurd (let no : ⊥ = cc in no)
    break_held LeavesScope target id statements key e = absurd (let no : ⊥ = cc in no)
    break_held LeavesCase target id statements key e = absurd (let no : ⊥ = cc in no)
    break_held FallsOff target id statements key e = subst AllOf (let same : Nil ≡ statements = cc in same) none
    break_held (Breaks kind) target id statements key e =
        subst AllOf (let same : unlabeled (Break target kind id) ≡ statements = cc in same)
        (alone (Break target kind id) (collected-Break parts target kind id) unnamed (of_jump target (key kind refl)))

    continue_held : (result : ContinueResult) (id : EvaluationOrder) (statements : Statements)
        → ((target : BlockId) (kind : Kind) → result ≡ Continues target kind → IsKey hir target)
        → continue_statements result id ≡ Some statements → AllOf statements
    continue_held NoLoop id statements key e = absurd (let no : ⊥ = cc in no)
    continue_held (Continues target kind) id statements key e =
        subst AllOf (let same : unlabeled (Continue target kind id) ≡ statements = cc in same)
        (alone (Continue target kind id) (collected-Continue parts target kind id) unnamed
        (of_jump target (key target kind refl)))

    break_in : (context : ListContext) (target : BlockId) (id : EvaluationOrder) (statements : Statements)
        → AreKeys hir context.frames
        → break_statements (resolve_break context.frames target) target id ≡ Some statements → AllOf statements
    break_in context target id statements keys e =
        break_held (resolve_break context.frames target) target id statements
        (λ kind is. break_key hir true false context.frames target kind keys is) e

    continue_in : (context : ListContext) (target : BlockId) (id : EvaluationOrder) (statements : Statements)
        → AreKeys hir context.frames
        → continue_statements (resolve_continue context.frames target) id ≡ Some statements → AllOf statements
    continue_in context target id statements keys e =
        continue_held (resolve_continue context.frames target) id statements
        (λ found kind is. continue_key hir true false context.frames target found kind keys is) e

    mutual
      list_held : {key : BlockId} {context : ListContext} {statements : Statements} {used : List BlockId}
          → AreKeys hir context.frames → SpellsList hir env key context statements used → AllOf statements
      list_held keys (from_block {key = key} {rest = rest} {block = b} usable apart d e) =
          subst AllOf (sym e) (rows_first b.rows rest (terminal_held (key, b, usable, refl) keys d))

      terminal_held : {terminal : Terminal} {context : ListContext} {statements : Statements} {used : List BlockId}
          → IsTerminal hir terminal → AreKeys hir context.frames
          → SpellsTerminal hir env terminal context statements used → AllOf statements
      terminal_held here keys (returns {value = value} {id = id}) =
          alone (Return value id) (collected-Return parts value id) unnamed none
      terminal_held here keys (throws {value = value} {id = id} outside) =
          alone (Throw value id) (collected-Throw parts value id) unnamed none
      terminal_held here keys unreachable = none
      terminal_held here keys (breaks {target = target} {id = id} {context = around} {statements = statements} e) =
          break_in around target id statements keys e
      terminal_held here keys
          (continues {target = target} {id = id} {context = around} {statements = statements} e) =
          continue_in around target id statements keys e
      terminal_held here keys (leaves_try next) = none
      terminal_held here keys (may_throw_last current next) = none
      terminal_held here keys (may_throw current next d) = list_held keys d
      terminal_held here keys (branch_arms {test = test} {id = id} {part = part} {other = other} d later e) =
          branch test part other id unnamed (list_held keys d) (list_held keys later)
      terminal_held here keys (branch_break {test = test} {consequent = target} {id = id} {context = around}
          {part = part} {other = other} names e later) =
          branch test part other id unnamed (break_in around target id part keys e) (list_held keys later)
      terminal_held here keys (and_rest {statement = statement} {rest = rest} d r e) =
          more statement rest (statement_held here keys (opened_of hir env r) d) (rest_held keys r)

      statement_held : {terminal : Terminal} {context : ListContext} {opened : Bool} {fallthrough : BlockId}
          {statement : Statement} {used : List BlockId} → IsTerminal hir terminal → AreKeys hir context.frames
          → IsOpened hir opened (Some fallthrough)
          → SpellsStatement hir env terminal context opened fallthrough statement used → AllOfStatement statement
      statement_held {context = around} {opened = o} {fallthrough = f} here keys is
          (if_only {test = test} {id = id} {label = own} {part = part} i l same falls d) =
          labeled (If test part Absent id) own (collected-If parts test (block_of part) None id) (own_label o f l is)
          (two (collected parts (block_of part)) [] (part_of part
          (list_held (inside_keys hir o (frame_kinds.Statement f) around is keys) d)) none)
      statement_held {context = around} {opened = o} {fallthrough = f} here keys is
          (if_else {test = test} {id = id} {label = own} {part = part} {other = other} i l same d later e) =
          let within = inside_keys hir o (frame_kinds.Statement f) around is keys in
          labeled (If test part (Present other) id) own
          (collected-If parts test (block_of part) (Some (block_of other)) id) (own_label o f l is)
          (two (collected parts (block_of part)) (collected parts (block_of other))
          (part_of part (list_held within d)) (part_of other (list_held within later)))
      statement_held {context = around} {opened = o} {fallthrough = f} here keys is
          (label_statement {id = id} {label = own} {part = part} i l d) =
          labeled (Label part id) own (collected-Label parts (block_of part) id) (own_label o f l is)
          (part_of part (list_held (inside_keys hir o (frame_kinds.Statement f) around is keys) d))
      statement_held {context = around} {opened = o} {fallthrough = f} here keys is
          (try_statement {binding = place} {id = id} {label = own} {part = part} {other = other} i l d later e) =
          let within = inside_keys hir o (frame_kinds.Statement f) around is keys in
          labeled (Try part place other id) own
          (collected-Try parts (block_of part) place (block_of other) id) (own_label o f l is)
          (two (collected parts (block_of part)) (collected parts (block_of other))
          (part_of part (list_held within d)) (part_of other (list_held within later)))
      statement_held {context = around} {opened = o} {fallthrough = f} here keys is
          (scope_statement {scope = of} {part = part} i d) =
          of_same (collected-Scope parts (record { scope = of; instructions = block_of part }))
          (of_scope of (collected parts (block_of part)) (here.0, here.1, here.2, ap scope_opened here.3)
          (part_of part (list_held (inside_keys hir o (frame_kinds.Scope f) around is keys) d)))
      statement_held {context = around} {opened = o} {fallthrough = f} here keys is
          (pruned_scope_statement {scope = of} {part = part} i d) =
          of_same (collected-PrunedScope parts (record { scope = of; instructions = block_of part }))
          (part_of part (list_held (inside_keys hir o (frame_kinds.Scope f) around is keys) d))
      statement_held {context = around} {opened = o} {fallthrough = f} here keys is
          (switch_statement {test = test} {id = id} {label = own} {parts = parts_of} i l one past kept last d) =
          labeled (Switch test parts_of id) own (collected-Switch parts test (cases_of parts_of) id)
          (own_label o f l is)
          (cases_held id (tt, inside_keys hir o (frame_kinds.Switch f) around is keys) d)
      statement_held here keys is (while_loop {fallthrough = f} {id = id} {parts = loop} reachable d) =
          labeled (While loop.test loop.body id) (label_of true f)
          (collected-While parts (value_of loop.test) (block_of loop.body) id) (of_label true f is)
          (part_of loop.body (turns_held keys is d))
      statement_held here keys is (do_while_loop {fallthrough = f} {id = id} {parts = loop} d) =
          labeled (DoWhile loop.body loop.test id) (label_of true f)
          (collected-DoWhile parts (block_of loop.body) (value_of loop.test) id) (of_label true f is)
          (two (collected parts (block_of loop.body)) [] (part_of loop.body (turns_held keys is d)) none)
      statement_held here keys is (for_loop {fallthrough = f} {id = id} {init_value = init} {parts = loop} v d e) =
          labeled (For init loop.test loop.before loop.body id) (label_of true f)
          (collected-For parts (value_of init) (value_of loop.test) _ (block_of loop.body) id) (of_label true f is)
          (two (collected parts (block_of loop.body)) [] (part_of loop.body (turns_held keys is d)) none)
      statement_held here keys is
          (for_of_loop {fallthrough = f} {id = id} {span = span} {init_value = init} {parts = loop} before d) =
          labeled (ForOf init loop.test loop.body span id) (label_of true f)
          (collected-ForOf parts (value_of init) (value_of loop.test) (block_of loop.body) span id)
          (of_label true f is) (part_of loop.body (turns_held keys is d))
      statement_held here keys is (for_in_loop {fallthrough = f} {id = id} {span = span} {parts = loop} d) =
          labeled (ForIn loop.test loop.body span id) (label_of true f)
          (collected-ForIn parts (value_of loop.test) (block_of loop.body) span id)
          (of_label true f is) (part_of loop.body (turns_held keys is d))
      statement_held here keys is (value_statement {nested = nested} opened reached d arm e) =
          row_of nested.id (Some nested.answer) nested.value nested.span

      cases_held : {cases : List GraphCase} {context : ListContext} {parts_of : Cases} {used : List BlockId}
          → (id : EvaluationOrder) → AreKeys hir context.frames
          → SpellsCases hir env cases context parts_of used → All P (collected_cases parts id (cases_of parts_of))
      cases_held id keys no_cases = none
      cases_held id keys (one_case {case = case} {context = around} {part = part} {parts = rest} later d e) =
          two _ (collected_cases parts id (cases_of rest))
          (of_same (collected-case parts case.test (Some (block_of part)) id)
          (part_of part (list_held (cases_keys hir env later keys) d)))
          (cases_held id keys later)

      turns_held : {blocks : LoopBlocks} {context : ListContext} {loop : LoopParts} {used : List BlockId}
          → AreKeys hir context.frames → IsKey hir blocks.fallthrough
          → SpellsTurns hir env blocks context loop used → AllOf loop.body
      turns_held keys is (turns apart again test before d e) = list_held (is, keys) d

      rest_held : {opened : Bool} {key : BlockId} {context : ListContext} {statements : Statements}
          {used : List BlockId} → AreKeys hir context.frames
          → SpellsRest hir env opened key context statements used → AllOf statements
      rest_held keys no_rest = none
      rest_held keys (has_rest d) = list_held keys d

    -- the property holds of all labels, jumps and scope blocks of a spelled tree
    pub spelled_held : (func : ReactiveFunction) → Spells hir env func → All P (collected parts func.body)
    spelled_held func spelled = subst (λ (func : ReactiveFunction). All P (collected parts func.body))
        (sym spelled.whole) (part_of spelled.statements (list_held tt spelled.body.list))
