-- Label pruning keeps each measure that counts no label and that a `Label` adds nothing to. So it keeps what is
-- collected of a tree where labels add nothing: its numbers, its visits, its scope blocks and their scopes.
use Rattle.std.proofs.Common.{◌≡◌, ◌∙◌, List, [], Bool, true, false, if◌then◌else◌, Option, None, Some}
use Rattle.std.proofs.Common.{refl, sym, ap, subst}
use Rattle.std.specs.FinSet.{empty}
use Rattle.std.specs.Prelude.{IfOk}
use Rattle.rc_hir.specs.Model.{HirFunction}
use Rattle.rc_names.specs.Numbers.{EvaluationOrder}
use Rattle.rc_tree.specs.Unrolled.{UnrolledTerminal}
use Rattle.rc_tree.proofs.Measures.{Measure, block, one, Compositional}
use Rattle.rc_tree.specs.Collected.{Contributions, collected, collected_statement, collected_terminal}
use Rattle.rc_tree.specs.Joining.{lists}
use Rattle.rc_tree.specs.inside.JoiningLaws.{IsMonoid}
use Rattle.rc_tree.specs.TreeNames.{names_in, names_of_parts}
use Rattle.rc_tree.specs.Model.{ReactiveBlock, ReactiveLabel, ReactiveTerminalStatement}
use Rattle.rc_tree.specs.declared.statement.ReactiveStatement.TheOpen as layer
use Rattle.rc_tree.specs.declared.statement.ReactiveStatement.TheVariants as reactive
use Rattle.rc_tree.specs.declared.terminal.ReactiveTerminal.{out-ReactiveTerminal}
use Rattle.rc_tree.specs.declared.terminal.ReactiveTerminal.{roll-ReactiveTerminal, roll-out-ReactiveTerminal}
use Rattle.rc_tree.specs.declared.terminal.ReactiveTerminal.TheVariants as tree
use Rattle.rc_tree.proofs.CollectedKeeps.{collected_laws, collected_measure, same_alone, same_block}
use Rattle.rc_tree.proofs.CollectedLemmas.{collected-block, collected-Label, collected-Terminal}
use Rattle.rc_tree.proofs.JoiningLemmas.{around_monoid, lists_monoid}
use Rattle.rc_tree.proofs.RebuiltKeeps.{RulesKeep, rebuilt_keeps}
use Rattle.rc_checks.specs.Labels.{IsWithoutUnusedLabels, Targets, flattened, in_place_of, is_named}
use Rattle.rc_checks.specs.Labels.{label_after, label_rules, targets_behind}
use Rattle.rc_checks.specs.ScopeBlocks.{Contents, contents, contents_of_parts, scope_blocks}
use Rattle.rc_tree.specs.ScopesIn.{scope_parts, scopes_in}
use Rattle.rc_tree.specs.Visits.{visits_of, visits_of_parts}
use Rattle.rc_checks.proofs.ScopeBlocks.ContentsLemmas.{contents_monoid}

module _ {L C P : Type 0} (m : Measure L C P) (laws : Compositional m)
    (blind : (x : ReactiveTerminalStatement) (label : Option ReactiveLabel)
    → one m (reactive.Terminal (record { terminal = x.terminal; label = label })) ≡ one m (reactive.Terminal x))
    (opens : (x : ReactiveTerminalStatement) (body : ReactiveBlock) (id : EvaluationOrder)
    → x.terminal ≡ tree.Label body id → block m body ≡ one m (reactive.Terminal x)) where
  placed_keeps : (targets : Targets) (x : ReactiveTerminalStatement) (l : UnrolledTerminal)
      → out-ReactiveTerminal x.terminal ≡ l
      → m.statements (in_place_of targets x (flattened targets x.label l)) ≡ one m (reactive.Terminal x)
  placed_keeps targets x (layer.Label body id) e = split (is_named targets x.label)
    where
      split : (named : Bool) → m.statements (in_place_of targets x (if named then None else Some body.statements))
          ≡ one m (reactive.Terminal x)
      split true = blind x (label_after targets x.label)
      split false = opens x body id (sym (roll-out-ReactiveTerminal x.terminal) ∙ ap roll-ReactiveTerminal e
          ∙ tree.rolls-Label body id)
  placed_keeps targets x (layer.Break target kind id) e = blind x (label_after targets x.label)
  placed_keeps targets x (layer.Continue target kind id) e = blind x (label_after targets x.label)
  placed_keeps targets x (layer.Return value id) e = blind x (label_after targets x.label)
  placed_keeps targets x (layer.Throw value id) e = blind x (label_after targets x.label)
  placed_keeps targets x (layer.Switch test cases id) e = blind x (label_after targets x.label)
  placed_keeps targets x (layer.DoWhile body test id) e = blind x (label_after targets x.label)
  placed_keeps targets x (layer.While test body id) e = blind x (label_after targets x.label)
  placed_keeps targets x (layer.For init test update body id) e = blind x (label_after targets x.label)
  placed_keeps targets x (layer.ForOf init test body span id) e = blind x (label_after targets x.label)
  placed_keeps targets x (layer.ForIn init body span id) e = blind x (label_after targets x.label)
  placed_keeps targets x (layer.If test consequent alternate id) e = blind x (label_after targets x.label)
  placed_keeps targets x (layer.Try body binding handler id) e = blind x (label_after targets x.label)

  rules_keep : RulesKeep m label_rules
  rules_keep = record {
    row = λ x s. refl;
    terminal = λ x s. placed_keeps (targets_behind (out-ReactiveTerminal x.terminal) s) x
        (out-ReactiveTerminal x.terminal) refl;
    pruned_scope = λ x s. refl;
    scope = λ met x s. refl;
    block = λ xs s. refl;
  }

  -- the block without its unused labels has the measure of the block
  pub labels_keep : (before after : ReactiveBlock) → IsWithoutUnusedLabels before after → block m after ≡ block m before
  labels_keep before after is = subst (λ e. IfOk e (λ a. block m a.1 ≡ block m before)) is.rebuilt
      (rebuilt_keeps m laws label_rules rules_keep before empty)

module _ {A : Type 0} (adds : Contributions A) (monoid : IsMonoid adds.joining)
    (unlabeled : (label : Option ReactiveLabel) → adds.label label ≡ adds.joining.nothing) where
  -- a terminal's contents are those without its label
  without_label : (x : ReactiveTerminalStatement)
      → collected_statement adds (reactive.Terminal x) ≡ collected_terminal adds x.terminal
  without_label x = collected-Terminal adds x
      ∙ ap (λ own. adds.joining.both own (collected_terminal adds x.terminal)) (unlabeled x.label)
      ∙ monoid.before (collected_terminal adds x.terminal)

  -- a collected notion of a tree stays, where labels add nothing
  pub labels_keep_collected : (before after : ReactiveBlock) → IsWithoutUnusedLabels before after
      → collected adds after ≡ collected adds before
  labels_keep_collected before after is = same_block adds before after
      (labels_keep (collected_measure adds) (collected_laws adds monoid) blind opens before after is)
    where
      blind : (x : ReactiveTerminalStatement) (label : Option ReactiveLabel)
          → one (collected_measure adds) (reactive.Terminal (record { terminal = x.terminal; label = label }))
          ≡ one (collected_measure adds) (reactive.Terminal x)
      blind x label =
          let y : ReactiveTerminalStatement = record { terminal = x.terminal; label = label } in
          same_alone adds (reactive.Terminal x) (reactive.Terminal y) (without_label y ∙ sym (without_label x))

      opens : (x : ReactiveTerminalStatement) (body : ReactiveBlock) (id : EvaluationOrder)
          → x.terminal ≡ tree.Label body id
          → block (collected_measure adds) body ≡ one (collected_measure adds) (reactive.Terminal x)
      opens x body id is =
          sym (collected-block adds body) ∙ sym (collected-Label adds body id) ∙ ap (collected_terminal adds) (sym is)
          ∙ sym (without_label x) ∙ sym (monoid.behind (collected_statement adds (reactive.Terminal x)))

-- the numbers of a tree stay
pub labels_keep_names : (before after : ReactiveBlock) → IsWithoutUnusedLabels before after
    → names_in after ≡ names_in before
labels_keep_names = labels_keep_collected names_of_parts lists_monoid (λ label. refl)

-- the visits of a tree stay
pub labels_keep_visits : (functions : List HirFunction) (before after : ReactiveBlock)
    → IsWithoutUnusedLabels before after → visits_of functions after ≡ visits_of functions before
labels_keep_visits functions before after is = ap (λ visits. visits [])
    (labels_keep_collected (visits_of_parts functions) (around_monoid lists lists_monoid) (λ label. refl) before after is)

-- the scope blocks of a tree stay, and so do its scopes
labels_keep_contents : (before after : ReactiveBlock) → IsWithoutUnusedLabels before after → contents after
    ≡ contents before
labels_keep_contents =
    labels_keep_collected contents_of_parts contents_monoid (λ label. refl)

pub labels_keep_scope_blocks : (before after : ReactiveBlock) → IsWithoutUnusedLabels before after
    → scope_blocks after ≡ scope_blocks before
labels_keep_scope_blocks before after is = ap (λ (it : Contents). it.blocks) (labels_keep_contents before after is)

pub labels_keep_scopes : (before after : ReactiveBlock) → IsWithoutUnusedLabels before after
    → scopes_in after ≡ scopes_in before
labels_keep_scopes = labels_keep_collected scope_parts lists_monoid (λ label. refl)
