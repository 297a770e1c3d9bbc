-- What the parts of a statement add to the table is what the statement adds.
use Rattle.std.proofs.Common.{◌≡◌, ℕ, suc, Bool, true, false, List, [], ◌∷◌, ◌++◌, Option, Some, None, refl, sym, ap, ◌∙◌, subst}
use Rattle.rc_names.specs.Numbers.{BlockId, EvaluationOrder}
use Rattle.rc_names.specs.declared.span.Span.{Span}
use Rattle.rc_hir.specs.Model.{Environment, Place}
use Rattle.rc_tree.specs.Model.{ReactiveInstruction, ReactiveLabel, ReactiveBlock, ReactiveStatement, ReactiveTerminal}
use Rattle.rc_tree.specs.Model.{ReactiveScopeBlock, PrunedReactiveScopeBlock, ReactiveTerminalStatement, ReactiveValue}
use Rattle.rc_tree.specs.Model.{ReactiveTerminalTargetKind}
use Rattle.rc_tree.specs.declared.statement.ReactiveStatement.{out-ReactiveStatement}
use Rattle.rc_tree.specs.declared.statement.ReactiveStatement.TheVariants as reactive
use Rattle.rc_tree.specs.declared.terminal.ReactiveTerminal.TheVariants as tree
use Rattle.rc_runs.specs.Event.{Returned}
use Rattle.rc_runs.specs.PlainTree.{Nil, Cons, RowStatement, TerminalStatement, ScopeStatement, PrunedScopeStatement}
use Rattle.rc_runs.specs.PlainTree.{Break, Continue, Return, Throw, If, Label, Try, While, DoWhile, For, ForOf, ForIn}
use Rattle.rc_runs.specs.Returning.{returning_after, returning_statement, returning_terminal, stored_by}
use Rattle.rc_runs.specs.TreeOf.{statement_of, value_of, block_of, statements_of}
use Rattle.rc_runs.proofs.EveryBlockIsPlain.{every_block_is_plain}
use Rattle.rc_replay.specs.declared.layout.Turns.{Turns}
use Rattle.rc_replay.specs.declared.exits.Around.{Around}
use Rattle.rc_replay.specs.declared.exits.Exits.{Exits as LaidExits}
use Rattle.rc_replay.specs.declared.layout.After.{After}
use Rattle.rc_replay.specs.declared.layout.Layout.{Layout}
use Rattle.rc_replay.specs.inside.EarlyReturn.{stored_in, returned_by}
use Rattle.rc_replay.specs.inside.Exits.{exit}
use Rattle.rc_replay.specs.inside.LaidBody.{LaysList, LaysBlock, LaysPart, LaysAlternate, LaysStatement, LaysTerminal}
use Rattle.rc_replay.specs.inside.LaidBody.{LaysLoop, LaysBreak}
use Rattle.rc_replay.specs.inside.LaidExits.{exits_of, part_exits, laid_before, laid_protected, laid_around}
use Rattle.rc_replay.specs.inside.Layout.{Lays, Has, LaysValue, LaysRow, both}
use Rattle.rc_replay.specs.inside.Lowered.{LowersStatement, LowersAlternate, thrown_position, break_completion}
use Rattle.rc_replay.specs.inside.Lowered.{continue_completion}
use Rattle.rc_replay.specs.inside.Lowered as lower
use Rattle.rc_replay.specs.inside.Positions.{Tests, Ends}
use Rattle.rc_replay.proofs.EarlyReturnLemmas.{stored-plain, break_or_return, returned-plain}
use Rattle.rc_replay.proofs.LayoutLemmas.{lays_more, lays_none, lays_both}
use Rattle.rc_replay.proofs.ValueLays.{at_both}

module _ {env : Environment} {exits : LaidExits} where
  pub lays_row_statement : {statement : ReactiveStatement} {row : ReactiveInstruction} {x : After} {start : ℕ} {a b : Layout}
      (stored : Option Place) → statement ≡ reactive.Instruction row → x ≡ both exits.normal
      → LaysRow env false row x a b start → LaysStatement env stored exits statement a b start
  unfolding returning_statement
  lays_row_statement {row = row} {start = start} {a} {b} stored is p l =
      let r : LaysRow env false row (both exits.normal) a b start =
      subst (λ x. LaysRow env false row x a b start) p l in
      record {
        plain = RowStatement row.id row.lvalue r.plain row.span;
        same = (λ i. reactive.Instruction (record { id = row.id; lvalue = row.lvalue; value = r.same i; span = row.span }))
            ∙ sym is;
        lays = lays_more (λ table h. lower.row h) r.lays;
      }

  pub lays_scope : {statement : ReactiveStatement} {scope : ReactiveScopeBlock} {start : ℕ} {a b : Layout}
      (stored : Option Place) → statement ≡ reactive.Scope scope → LaysBlock env exits scope.instructions a b start
      → LaysStatement env stored exits statement a b start
  unfolding returning_statement
  lays_scope {scope = scope} stored is l = record {
    plain = ScopeStatement scope.scope l.plain;
    same = (λ i. reactive.Scope (record { scope = scope.scope; instructions = record { statements = l.same i } })) ∙ sym is;
    lays = lays_more (λ table h. lower.scope_statement h) l.lays;
  }

  pub lays_pruned_scope : {statement : ReactiveStatement} {scope : PrunedReactiveScopeBlock} {start : ℕ} {a b : Layout}
      (stored : Option Place) → statement ≡ reactive.PrunedScope scope
      → LaysBlock env exits scope.instructions a b start → LaysStatement env stored exits statement a b start
  unfolding returning_statement
  lays_pruned_scope {scope = scope} stored is l = record {
    plain = PrunedScopeStatement scope.scope l.plain;
    same = (λ i. reactive.PrunedScope (record { scope = scope.scope; instructions = record { statements = l.same i } }))
        ∙ sym is;
    lays = lays_more (λ table h. lower.pruned_scope_statement h) l.lays;
  }

  pub lays_terminal_statement : {statement : ReactiveStatement} {stmt : ReactiveTerminalStatement} {start : ℕ}
      {a b : Layout} (stored : Option Place) → statement ≡ reactive.Terminal stmt
      → LaysTerminal env stored exits stmt.label stmt.terminal a b start
      → LaysStatement env stored exits statement a b start
  unfolding returning_statement
  lays_terminal_statement {stmt = stmt} stored is l = record {
    plain = TerminalStatement l.plain stmt.label;
    same = (λ i. reactive.Terminal (record { terminal = l.same i; label = stmt.label })) ∙ sym is;
    lays = l.lays;
  }

  -- statements, from the last one to the first
  pub lays_no_statement : {a : Layout} (stored : Option Place) → LaysList env stored exits [] a a exits.normal
  unfolding returning_after
  lays_no_statement stored = record { plain = Nil; same = refl; lays = lays_none (λ table. lower.no_statement) }

  pub lays_return : {terminal : ReactiveTerminal} {value : Place} {start : ℕ} {a b : Layout} (stored : Option Place)
      (label : Option ReactiveLabel) (id : EvaluationOrder) → terminal ≡ tree.Return value id
      → Lays a b (Has start (Ends (Returned value))) → LaysTerminal env stored exits label terminal a b start
  unfolding returning_terminal
  lays_return {value = value} stored label id is l = record {
    plain = Return value id;
    same = sym is;
    lays = lays_more (λ table h. lower.returns h) l;
  }

  pub lays_throw : {terminal : ReactiveTerminal} {value : Place} {start : ℕ} {a b : Layout} (stored : Option Place)
      (label : Option ReactiveLabel) (id : EvaluationOrder) → terminal ≡ tree.Throw value id
      → Lays a b (Has start (thrown_position exits.throws value)) → LaysTerminal env stored exits label terminal a b start
  unfolding returning_terminal
  lays_throw {value = value} stored label id is l = record {
    plain = Throw value id;
    same = sym is;
    lays = lays_more (λ table h. lower.throws h) l;
  }

  pub lays_early_return : {value : Place} {target : BlockId} {kind : ReactiveTerminalTargetKind} {start : ℕ} {a b : Layout}
      (stored : Option Place) (label : Option ReactiveLabel) → returned_by env stored target kind ≡ Some value
      → Lays a b (Has start (Ends (Returned value))) → LaysBreak env stored exits label target kind a b start
  unfolding returning_terminal
  lays_early_return {value} {target} {kind} {start} {a} stored label early l id = record {
    plain = Break target kind id;
    same = refl;
    lays = lays_more (λ table h. subst (λ t. LowersStatement table env (exits_of exits a.labels)
        (TerminalStatement t label) start) (sym (returned-plain env stored target kind id
        ∙ ap (λ found. break_or_return found target kind id) early)) (lower.returns h)) l;
  }

  pub lays_break : {target : BlockId} {kind : ReactiveTerminalTargetKind} {start : ℕ} {a : Layout}
      (stored : Option Place) (label : Option ReactiveLabel) → returned_by env stored target kind ≡ None
      → start ≡ exit (exits_of exits a.labels) (break_completion label target kind)
      → LaysBreak env stored exits label target kind a a start
  unfolding returning_terminal
  lays_break {target} {kind} {start} {a} stored label none is id = record {
    plain = Break target kind id;
    same = refl;
    lays = lays_none (λ table. subst (λ t. LowersStatement table env (exits_of exits a.labels)
        (TerminalStatement t label) start) (sym (returned-plain env stored target kind id
        ∙ ap (λ found. break_or_return found target kind id) none))
        (subst (λ n. LowersStatement table env (exits_of exits a.labels)
        (TerminalStatement (Break target kind id) label) n) (sym is) lower.breaks));
  }

  pub lays_continue : {terminal : ReactiveTerminal} {target : BlockId} {kind : ReactiveTerminalTargetKind} {start : ℕ}
      {a : Layout} (stored : Option Place) (label : Option ReactiveLabel) (id : EvaluationOrder)
      → terminal ≡ tree.Continue target kind id
      → start ≡ exit (exits_of exits a.labels) (continue_completion target kind)
      → LaysTerminal env stored exits label terminal a a start
  unfolding returning_terminal
  lays_continue {target = target} {kind} {a = a} stored label id is at = record {
    plain = Continue target kind id;
    same = sym is;
    lays = lays_none (λ table. subst (λ n. LowersStatement table env (exits_of exits a.labels)
        (TerminalStatement (Continue target kind id) label) n) (sym at) lower.continues);
  }

  pub lays_label : {terminal : ReactiveTerminal} {block : ReactiveBlock} {around : Around} {start : ℕ} {a b : Layout}
      (stored : Option Place) (label : Option ReactiveLabel) (id : EvaluationOrder) → terminal ≡ tree.Label block id
      → around ≡ laid_around label exits → LaysPart env exits around block a b start
      → LaysTerminal env stored exits label terminal a b start
  unfolding returning_terminal
  lays_label {block = block} {start = start} {a} {b} stored label id is p l =
      let part : LaysPart env exits (laid_around label exits) block a b start =
      subst (λ around. LaysPart env exits around block a b start) p l in
      record {
        plain = Label part.plain id;
        same = (λ i. tree.Label (record { statements = part.same i }) id) ∙ sym is;
        lays = lays_more (λ table h. lower.label_statement h) part.lays;
      }

  pub lays_try : {terminal : ReactiveTerminal} {block : ReactiveBlock} {binding : Option Place} {around : Around}
      {x : LaidExits} {start : ℕ} {a b : Layout} (stored : Option Place) (label : Option ReactiveLabel)
      (handler : ReactiveBlock) (id : EvaluationOrder) → terminal ≡ tree.Try block binding handler id → around ≡ laid_around label exits
      → x ≡ laid_protected exits → LaysPart env x around block a b start
      → LaysTerminal env stored exits label terminal a b start
  unfolding returning_terminal
  lays_try {block = block} {binding} {around} {x} {start} {a} {b} stored label handler id is p q l =
      let part : LaysPart env (laid_protected exits) (laid_around label exits) block a b start =
      subst (λ around. LaysPart env (laid_protected exits) around block a b start) p
      (subst (λ x. LaysPart env x around block a b start) q l) in
      let other = every_block_is_plain handler in
      record {
        plain = Try part.plain binding other.0 id;
        same = (λ i. tree.Try (record { statements = part.same i }) binding (other.1 i) id) ∙ sym is;
        lays = lays_more (λ table h. lower.try_statement h) part.lays;
      }
