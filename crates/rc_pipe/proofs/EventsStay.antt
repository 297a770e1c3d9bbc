-- Label pruning keeps the events of a tree's parts, and so the memo record.
use Rattle.std.proofs.Common.{◌≡◌, ◌∙◌, Bool, true, false, [], ◌∷◌, None, Some, if◌then◌else◌, map, refl, sym, ap}
use Rattle.std.specs.FinSet.{empty}
use Rattle.std.specs.List.{flat_map}
use Rattle.rc_hir.specs.Model.{Environment}
use Rattle.rc_names.specs.Numbers.{DeclarationId, ScopeId, same_id}
use Rattle.rc_checks.specs.Labels.{IsWithoutUnusedLabels, Targets, flattened, in_place_of, is_named, label_rules}
use Rattle.rc_checks.specs.Labels.{targets_behind}
use Rattle.rc_tree.proofs.RebuiltRelated.{RelatesRules, rebuilt_related, stands}
use Rattle.rc_escape.specs.WholeRecord.{LacksNode, LacksScope}
use Rattle.rc_escape.specs.NotEscaping.{IsNeededOutput}
use Rattle.rc_memo.specs.Events.{definitions_told, escaping_in, facts_told, loads_in, scopes_in}
use Rattle.rc_memo.specs.Facts.{distinct, first_missing, nodes_told}
use Rattle.rc_memo.specs.Record.{IsRecordOf, param_name, recorded_scopes}
use Rattle.rc_memo.specs.TreeEvents.{Events, events_in, events_of_parts}
use Rattle.rc_memo.specs.declared.record.MemoRecord.{MemoRecord}
use Rattle.rc_tree.proofs.CollectedLemmas.{collected-block, collected-Instruction, collected-Label, collected-PrunedScope}
use Rattle.rc_tree.proofs.CollectedLemmas.{collected-Scope, collected-Terminal}
use Rattle.rc_tree.proofs.JoiningLemmas.{around_monoid, lists_monoid}
use Rattle.rc_tree.specs.Collected.{Contributions, collected, collected_list, collected_statement, collected_terminal}
use Rattle.rc_tree.specs.Joining.{lists}
use Rattle.rc_tree.specs.inside.JoiningLaws.{IsMonoid}
use Rattle.rc_tree.specs.Model.{ReactiveBlock, ReactiveFunction, ReactiveStatement, ReactiveTerminalStatement}
use Rattle.rc_tree.specs.Unrolled.{UnrolledTerminal}
use Rattle.rc_tree.specs.declared.statement.ReactiveStatement.TheOpen as layer
use Rattle.rc_tree.specs.declared.statement.ReactiveStatement.TheVariants as reactive
use Rattle.rc_tree.specs.declared.terminal.ReactiveTerminal.{out-ReactiveTerminal}
use Rattle.rc_tree.specs.declared.terminal.ReactiveTerminal.{roll-ReactiveTerminal, roll-out-ReactiveTerminal}
use Rattle.rc_tree.specs.declared.terminal.ReactiveTerminal.TheVariants as tree

module _ (env : Environment) where
  abbrev parts : Contributions Events
  parts = events_of_parts env

  monoid : IsMonoid parts.joining
  monoid = around_monoid lists lists_monoid

  -- the events of one statement
  alone : (x : ReactiveStatement) (it : Events) → collected_statement parts x ≡ it → collected_list parts (x ∷ []) ≡ it
  alone x it e = monoid.behind (collected_statement parts x) ∙ e

  terminal_alone : (x : ReactiveTerminalStatement)
      → collected_list parts (reactive.Terminal x ∷ []) ≡ collected_terminal parts x.terminal
  terminal_alone x = alone (reactive.Terminal x) (collected_terminal parts x.terminal) (collected-Terminal parts x)

  -- what is put in a terminal's place has the terminal's events
  placed : (targets : Targets) (x : ReactiveTerminalStatement) (l : UnrolledTerminal)
      → out-ReactiveTerminal x.terminal ≡ l
      → collected_list parts (in_place_of targets x (flattened targets x.label l))
      ≡ collected_terminal parts x.terminal
  placed targets x (layer.Label body id) e = split (is_named targets x.label)
    where
      same : x.terminal ≡ tree.Label body id
      same = sym (roll-out-ReactiveTerminal x.terminal) ∙ ap roll-ReactiveTerminal e ∙ tree.rolls-Label body id

      split : (named : Bool)
          → collected_list parts (in_place_of targets x (if named then None else Some body.statements))
          ≡ collected_terminal parts x.terminal
      split true = terminal_alone _
      split false = sym (collected-block parts body) ∙ sym (collected-Label parts body id)
          ∙ ap (collected_terminal parts) (sym same)
  placed targets x (layer.Break target kind id) e = terminal_alone _
  placed targets x (layer.Continue target kind id) e = terminal_alone _
  placed targets x (layer.Return value id) e = terminal_alone _
  placed targets x (layer.Throw value id) e = terminal_alone _
  placed targets x (layer.Switch test cases id) e = terminal_alone _
  placed targets x (layer.DoWhile body test id) e = terminal_alone _
  placed targets x (layer.While test body id) e = terminal_alone _
  placed targets x (layer.For init test update body id) e = terminal_alone _
  placed targets x (layer.ForOf init test body span id) e = terminal_alone _
  placed targets x (layer.ForIn init body span id) e = terminal_alone _
  placed targets x (layer.If test consequent alternate id) e = terminal_alone _
  placed targets x (layer.Try body binding handler id) e = terminal_alone _

  related : RelatesRules label_rules (λ before after. before ≡ after) parts parts
  related = record {
    joined = record { nothing = refl; both = λ x x1 y y1 e f. λ i. parts.joining.both (e i) (f i) };
    value = λ id x. refl;
    place = λ id x. refl;
    returned = λ id x. refl;
    jump = λ target. refl;
    row = λ x s r e. stands (λ xs. parts.row x ≡ collected_list parts xs) _ _ r e
        (sym (alone (reactive.Instruction x) (parts.row x) (collected-Instruction parts x)));
    terminal = λ label x t s r e f.
        let statement : ReactiveTerminalStatement = record { terminal = t; label = label } in
        stands (λ xs. x ≡ collected_list parts xs) _ _ r e
        (f ∙ sym (placed (targets_behind (out-ReactiveTerminal t) s) statement (out-ReactiveTerminal t) refl));
    scope = λ of x inside met s r e f.
        stands (λ xs. parts.scope of x ≡ collected_list parts xs) _ _ r e
        (ap (parts.scope of) f ∙ sym (alone (reactive.Scope (record { scope = of; instructions = inside }))
        (parts.scope of (collected parts inside))
        (collected-Scope parts (record { scope = of; instructions = inside }))));
    pruned_scope = λ of x inside s r e f.
        stands (λ xs. x ≡ collected_list parts xs) _ _ r e
        (f ∙ sym (alone (reactive.PrunedScope (record { scope = of; instructions = inside })) (collected parts inside)
        (collected-PrunedScope parts (record { scope = of; instructions = inside }))));
    block = λ x xs s r e f. stands (λ ys. x ≡ collected_list parts ys) s xs r e f;
  }

  pub events_stay : (before after : ReactiveBlock) → IsWithoutUnusedLabels before after
      → events_in env before ≡ events_in env after
  events_stay before after is = ap (λ all. all [])
      (rebuilt_related label_rules (λ before after. before ≡ after) parts parts monoid related before empty
      is.targets after is.rebuilt)

  -- functions with the same parameters and events have the same record
  module _ (one other : ReactiveFunction) (params : one.params ≡ other.params)
      (events : events_in env one.body ≡ events_in env other.body) where
    told : facts_told (map (param_name env) one.params) (events_in env one.body)
        ≡ facts_told (map (param_name env) other.params) (events_in env other.body)
    told = λ i. facts_told (map (param_name env) (params i)) (events i)

    pub same_record : (rec : MemoRecord) → IsRecordOf one env rec → IsRecordOf other env rec
    same_record rec is = record {
      complete = ap (first_missing []) (sym told) ∙ is.complete;
      nodes = is.nodes ∙ ap nodes_told told;
      definitions = is.definitions ∙ ap (λ all. definitions_told (flat_map loads_in all)) events;
      escaping = is.escaping ∙ ap (λ all. distinct same_id (flat_map escaping_in all)) events;
      scopes = is.scopes ∙ ap (λ all. recorded_scopes env (distinct same_id (flat_map scopes_in all))) events;
    }

    pub same_node : (name : DeclarationId) → LacksNode env one name → LacksNode env other name
    same_node name lacks = ap (first_missing []) (sym told) ∙ lacks

    pub same_scope : (scope : ScopeId) → LacksScope env one scope → LacksScope env other scope
    same_scope scope lacks = record {
      rec = lacks.rec;
      recorded = same_record lacks.rec lacks.recorded;
      lowest = lacks.lowest;
    }

    pub same_needed : (scope : ScopeId) (name : DeclarationId) → IsNeededOutput env one scope name
        → IsNeededOutput env other scope name
    same_needed scope name needed = record {
      output = needed.output;
      rec = needed.rec;
      recorded = same_record needed.rec needed.recorded;
      least = needed.least;
    }
