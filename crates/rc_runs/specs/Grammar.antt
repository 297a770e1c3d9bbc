-- The statements that a graph spells from a block on, and the blocks that they use.
--
-- A loop always opens its fallthrough. Its body falls off to the block with which each turn begins.
-- A value terminal is a row, after which the list goes on at its fallthrough.
-- A block that may throw ends no list: the list goes on at its continuation, unless falling off reaches that.
-- The handler is that of the innermost try whose protected block the list is in.
--
-- The indices of each family are: a block or a terminal, the context of the list, the statements, and the used blocks
-- in the order in which they are marked.
use Rattle.std.specs.Prelude.{◌≡◌, Bool, true, false, List, [], ◌∷◌, ◌++◌, Option, Some, None, ◌||◌}
use Rattle.std.specs.List.{list_any}
use Rattle.rc_names.specs.Numbers.{BlockId, same_id}
use Rattle.rc_hir.specs.Model.{Case, Terminal, HirFunction, Environment}
use Rattle.rc_hir.specs.Successors.{is_default}
use Rattle.rc_hir.specs.declared.terminal.GotoVariant.TheVariants as variants
use Rattle.rc_hir.specs.declared.terminal.Terminal.TheVariants as terminals
use Rattle.rc_runs.specs.declared.frames.Frame.TheVariants as frame_kinds
use Rattle.rc_runs.specs.Graph.{Block, usable_block, ends_unreachable}
use Rattle.rc_runs.specs.Frames.{is_jump_target, resolve_break, resolve_continue}
use Rattle.rc_runs.specs.ListContext.{ListContext, inside, marked, protected_by, is_current, value_context}
use Rattle.rc_runs.specs.LoopParts.{LoopBlocks, LoopParts, turn_start, loop_frame}
use Rattle.rc_runs.specs.SwitchCases.{kept_cases, has_one_default, tests_past, case_context}
use Rattle.rc_runs.specs.ShortArms.{SpellsShortArm}
use Rattle.rc_runs.specs.LoopValues.{SpellsGoing, SpellsTest}
use Rattle.rc_runs.specs.ValueGrammar.{Nested, SpellsNested}
use Rattle.rc_runs.specs.PlainTree.{Value, Statements, Nil, Cons, Statement, RowStatement, TerminalStatement}
use Rattle.rc_runs.specs.PlainTree.{ScopeStatement, PrunedScopeStatement, Return, Throw, Switch}
use Rattle.rc_runs.specs.PlainTree.{DoWhile, While, For, ForOf, ForIn, If, Label, Try, Absent, Present, Cases, NoCases}
use Rattle.rc_runs.specs.PlainTree.{Case as TreeCase}
use Rattle.rc_runs.specs.Fallthrough.{opens, opens_reachable, label_of, is_next, falls_to}
use Rattle.rc_runs.specs.SimpleStatements.{rows_before, unlabeled, break_statements, continue_statements}

module _ (hir : HirFunction) (env : Environment) where
  -- the value with which each turn of a loop begins before its test, if there is one
  pub data SpellsBefore (blocks : LoopBlocks) (context : ListContext) : Option BlockId → Option Value →
      List BlockId → Type 0 where
    no_value : SpellsBefore blocks context None None []
    some_value : {key value used : _} →
        SpellsGoing hir env blocks.flat key (value_context blocks.span context) blocks.test value used →
        SpellsBefore blocks context (Some key) (Some value) used

  mutual
    -- the statements from a block on
    pub data SpellsList : BlockId → ListContext → Statements → List BlockId → Type 0 where
      from_block : {key : _} {context : ListContext} {rest statements used : _} {block : Block} →
          usable_block hir key ≡ Some block → is_jump_target context.frames key ≡ false →
          SpellsTerminal block.terminal context rest used → statements ≡ rows_before block.rows rest →
          SpellsList key context statements (key ∷ used)

    -- the statements of a terminal, and those that follow
    pub data SpellsTerminal : Terminal → ListContext → Statements → List BlockId → Type 0 where
      returns : {value id span context : _} →
          SpellsTerminal (terminals.Return value id span) context (unlabeled (Return value id)) []
      -- a throw is spelled outside of handlers alone
      throws : {value id span : _} {context : ListContext} → context.handler ≡ None →
          SpellsTerminal (terminals.Throw value id span) context (unlabeled (Throw value id)) []
      -- a block that is never left has no statement for its end
      unreachable : {id span context : _} → SpellsTerminal (terminals.Unreachable id span) context Nil []
      breaks : {target id span : _} {context : ListContext} {statements : _} →
          break_statements (resolve_break context.frames target) target id ≡ Some statements →
          SpellsTerminal (terminals.Goto target variants.Break id span) context statements []
      continues : {target id span : _} {context : ListContext} {statements : _} →
          continue_statements (resolve_continue context.frames target) id ≡ Some statements →
          SpellsTerminal (terminals.Goto target variants.Continue id span) context statements []
      -- the jump out of a protected block has no statement: it leads to where falling off does
      leaves_try : {target id span : _} {context : ListContext} → is_next context.next target ≡ true →
          SpellsTerminal (terminals.Goto target variants.Try id span) context Nil []
      may_throw_last : {continuation named id span : _} {context : ListContext} →
          is_current named context.handler ≡ true → is_next context.next continuation ≡ true →
          SpellsTerminal (terminals.MaybeThrow continuation named id span) context Nil []
      may_throw : {continuation named id span : _} {context : ListContext} {statements used : _} →
          is_current named context.handler ≡ true → is_next context.next continuation ≡ false →
          SpellsList continuation context statements used →
          SpellsTerminal (terminals.MaybeThrow continuation named id span) context statements used
      -- a branch is an if without a label or fallthrough: its arms stay in the context of the list
      branch_arms : {test consequent alternate id span context part other part_used other_used used : _} →
          SpellsList consequent context part part_used → SpellsList alternate context other other_used →
          used ≡ part_used ++ other_used →
          SpellsTerminal (terminals.Branch test consequent alternate id span) context
          (unlabeled (If test part (Present other) id)) used
      -- a consequent that a jump can name is a break to it
      branch_break : {test consequent alternate id span : _} {context : ListContext} {part other used : _} →
          is_jump_target context.frames consequent ≡ true →
          break_statements (resolve_break context.frames consequent) consequent id ≡ Some part →
          SpellsList alternate context other used →
          SpellsTerminal (terminals.Branch test consequent alternate id span) context
          (unlabeled (If test part (Present other) id)) used
      -- a statement with parts, and then the statements of its fallthrough, if that is opened
      and_rest : {terminal opened fallthrough context statement rest part_used rest_used used : _} →
          SpellsStatement terminal context opened fallthrough statement part_used →
          SpellsRest opened fallthrough context rest rest_used → used ≡ part_used ++ rest_used →
          SpellsTerminal terminal context (Cons statement rest) used

    -- the statement of a terminal that has a fallthrough, which is opened or not
    pub data SpellsStatement : Terminal → ListContext → Bool → BlockId → Statement → List BlockId → Type 0 where
      -- an alternate that is the fallthrough is left out; then leaving the statement must lead there
      if_only : {test consequent alternate fallthrough id span : _} {context : ListContext} {opened label part used : _} →
          opened ≡ opens_reachable hir context.frames fallthrough → label ≡ label_of opened fallthrough →
          same_id alternate fallthrough ≡ true → falls_to opened fallthrough context.next ≡ true →
          SpellsList consequent (inside opened (frame_kinds.Statement fallthrough) context) part used →
          SpellsStatement (terminals.If test consequent alternate fallthrough id span) context opened fallthrough
          (TerminalStatement (If test part Absent id) label) used
      if_else :
          {test consequent alternate fallthrough id span : _} {context : ListContext} {opened label part other part_used
          other_used used : _} → opened ≡ opens_reachable hir context.frames fallthrough →
          label ≡ label_of opened fallthrough → same_id alternate fallthrough ≡ false →
          SpellsList consequent (inside opened (frame_kinds.Statement fallthrough) context) part part_used →
          SpellsList alternate (inside opened (frame_kinds.Statement fallthrough) context) other other_used →
          used ≡ part_used ++ other_used →
          SpellsStatement (terminals.If test consequent alternate fallthrough id span) context opened fallthrough
          (TerminalStatement (If test part (Present other) id) label) used
      label_statement : {inner fallthrough id span : _} {context : ListContext} {opened label part used : _} →
          opened ≡ opens_reachable hir context.frames fallthrough → label ≡ label_of opened fallthrough →
          SpellsList inner (inside opened (frame_kinds.Statement fallthrough) context) part used →
          SpellsStatement (terminals.Label inner fallthrough id span) context opened fallthrough
          (TerminalStatement (Label part id) label) used
      -- the handler protects the block, and not itself
      try_statement :
          {block handler fallthrough binding id span : _} {context : ListContext} {opened label part other part_used
          other_used used : _} → opened ≡ opens_reachable hir context.frames fallthrough →
          label ≡ label_of opened fallthrough →
          SpellsList block (protected_by handler (inside opened (frame_kinds.Statement fallthrough) context)) part
          part_used →
          SpellsList handler (inside opened (frame_kinds.Statement fallthrough) context) other other_used →
          used ≡ part_used ++ other_used →
          SpellsStatement (terminals.Try block binding handler fallthrough id span) context opened fallthrough
          (TerminalStatement (Try part binding other id) label) used
      -- scopes have no label, and open an `Unreachable` fallthrough like any other
      scope_statement : {inner fallthrough scope id span : _} {context : ListContext} {opened part used : _} →
          opened ≡ opens context.frames fallthrough →
          SpellsList inner (inside opened (frame_kinds.Scope fallthrough) context) part used →
          SpellsStatement (terminals.Scope fallthrough inner scope id span) context opened fallthrough
          (ScopeStatement scope part) used
      pruned_scope_statement : {inner fallthrough scope id span : _} {context : ListContext} {opened part used : _} →
          opened ≡ opens context.frames fallthrough →
          SpellsList inner (inside opened (frame_kinds.Scope fallthrough) context) part used →
          SpellsStatement (terminals.PrunedScope fallthrough inner scope id span) context opened fallthrough
          (PrunedScopeStatement scope part) used
      -- a default that leads straight to the fallthrough, which then has to be reached without it, is left out
      switch_statement : {test cases kept fallthrough id span : _} {context : ListContext} {opened label parts used : _} →
          opened ≡ opens_reachable hir context.frames fallthrough → label ≡ label_of opened fallthrough →
          has_one_default cases ≡ true → tests_past fallthrough cases ≡ false →
          kept ≡ kept_cases (opened || is_jump_target context.frames fallthrough) fallthrough cases →
          list_any is_default kept || falls_to opened fallthrough context.next ≡ true →
          SpellsCases kept (marked (inside opened (frame_kinds.Switch fallthrough) context)) parts used →
          SpellsStatement (terminals.Switch test cases fallthrough id span) context opened fallthrough
          (TerminalStatement (Switch test parts id) label) used
      -- of the loops, a while alone asks that its fallthrough doesn't end in `Unreachable`
      while_loop : {test body fallthrough id span context : _} {parts : LoopParts} {used : _} →
          ends_unreachable hir fallthrough ≡ false →
          SpellsTurns (record {
            before = None;
            test = test;
            body = body;
            fallthrough = fallthrough;
            flat = false;
            span = span;
          }) context parts used →
          SpellsStatement (terminals.While test body fallthrough id span) context true fallthrough
          (TerminalStatement (While parts.test parts.body id) (label_of true fallthrough)) used
      do_while_loop : {test body fallthrough id span context : _} {parts : LoopParts} {used : _} →
          SpellsTurns (record {
            before = None;
            test = test;
            body = body;
            fallthrough = fallthrough;
            flat = false;
            span = span;
          }) context parts used →
          SpellsStatement (terminals.DoWhile body test fallthrough id span) context true fallthrough
          (TerminalStatement (DoWhile parts.body parts.test id) (label_of true fallthrough)) used
      -- the init runs once before all turns
      for_loop :
          {init test body fallthrough update id span context init_value : _} {parts : LoopParts} {init_used turns_used
          used : _} → SpellsGoing hir env true init (value_context span context) test init_value init_used →
          SpellsTurns (record {
            before = update;
            test = test;
            body = body;
            fallthrough = fallthrough;
            flat = false;
            span = span;
          }) context parts turns_used → used ≡ init_used ++ turns_used →
          SpellsStatement (terminals.For init test update body fallthrough id span) context true fallthrough
          (TerminalStatement (For init_value parts.test parts.before parts.body id) (label_of true fallthrough)) used
      for_of_loop : {init test body fallthrough id span context init_value : _} {parts : LoopParts} {used : _} →
          parts.before ≡ Some init_value →
          SpellsTurns (record {
            before = Some init;
            test = test;
            body = body;
            fallthrough = fallthrough;
            flat = true;
            span = span;
          }) context parts used →
          SpellsStatement (terminals.ForOf init test body fallthrough id span) context true fallthrough
          (TerminalStatement (ForOf init_value parts.test parts.body span id) (label_of true fallthrough)) used
      for_in_loop : {init body fallthrough id span context : _} {parts : LoopParts} {used : _} →
          SpellsTurns (record {
            before = None;
            test = init;
            body = body;
            fallthrough = fallthrough;
            flat = true;
            span = span;
          }) context parts used →
          SpellsStatement (terminals.ForIn init body fallthrough id span) context true fallthrough
          (TerminalStatement (ForIn parts.test parts.body span id) (label_of true fallthrough)) used
      -- a value terminal is a row without a label; it opens an `Unreachable` fallthrough like any other
      value_statement : {terminal : _} {nested : Nested} {context : ListContext} {opened nested_used arm_used used : _} →
          opened ≡ opens context.frames nested.fallthrough → falls_to opened nested.fallthrough context.next ≡ true →
          SpellsNested hir env context.handler terminal nested nested_used →
          SpellsShortArm hir env context.handler nested.fallthrough false nested.short None None arm_used →
          used ≡ nested_used ++ arm_used →
          SpellsStatement terminal context opened nested.fallthrough (RowStatement nested.id (Some nested.answer)
          nested.value nested.span) used

    -- the kept cases of a switch; the blocks of the later ones are marked first
    pub data SpellsCases : List Case → ListContext → Cases → List BlockId → Type 0 where
      no_cases : {context : _} → SpellsCases [] context NoCases []
      one_case : {case : Case} {later context part parts later_used part_used used : _} →
          SpellsCases later context parts later_used → SpellsList case.block (case_context later context) part part_used →
          used ≡ later_used ++ part_used →
          SpellsCases (case ∷ later) context (TreeCase case.test (Present part) parts) used

    -- the turns of a loop; the blocks of its values are marked before those of its body
    pub data SpellsTurns : LoopBlocks → ListContext → LoopParts → List BlockId → Type 0 where
      turns :
          {blocks : LoopBlocks} {context : ListContext} {parts : LoopParts} {test_used before_used body_used used : _} →
          is_jump_target context.frames blocks.fallthrough ≡ false →
          is_jump_target context.frames (turn_start blocks) ≡ false →
          SpellsTest hir env blocks.flat blocks.test (value_context blocks.span context) blocks.body blocks.fallthrough
          parts.test test_used → SpellsBefore blocks context blocks.before parts.before before_used →
          SpellsList blocks.body (inside true (loop_frame blocks) context) parts.body body_used →
          used ≡ test_used ++ (before_used ++ body_used) → SpellsTurns blocks context parts used

    -- the statements after a statement: those of its fallthrough, if that is opened
    pub data SpellsRest : Bool → BlockId → ListContext → Statements → List BlockId → Type 0 where
      no_rest : {fallthrough context : _} → SpellsRest false fallthrough context Nil []
      has_rest : {fallthrough context statements used : _} → SpellsList fallthrough context statements used →
          SpellsRest true fallthrough context statements used
