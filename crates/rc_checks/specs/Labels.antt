-- A tree without its unused labels: a `Label` that nothing names gives way to its statements, and every other label
-- that nothing names is implicit.
--
-- A label is named by the labeled breaks and continues met so far: those before its statement in the order of the text,
-- and those inside it.
pub mod Steps
use Rattle.std.specs.Prelude.{◌≡◌, Bool, List, [], ◌∷◌, Option, None, Some, Ok, if◌then◌else◌}
use Rattle.std.specs.FinSet.{FinSet, contains, empty, insert}
use Rattle.std.specs.Ordering.{nat_cmp}
use Rattle.rc_names.specs.Numbers.{BlockId}
use Rattle.rc_tree.specs.Unrolled.{UnrolledTerminal}
use Rattle.rc_tree.specs.Rebuilt.{Rules, keeps_statements, rebuilt_block}
use Rattle.rc_tree.specs.Model.{ReactiveTerminalTargetKind, ReactiveBlock, ReactiveStatement, ReactiveLabel}
use Rattle.rc_tree.specs.Model.{ReactiveTerminalStatement}
use Rattle.rc_tree.specs.declared.kind.ReactiveTerminalTargetKind.TheVariants.{Labeled}
use Rattle.rc_tree.specs.declared.statement.ReactiveStatement.TheOpen as layer
use Rattle.rc_tree.specs.declared.statement.ReactiveStatement.TheVariants as reactive
use Rattle.rc_tree.specs.declared.terminal.ReactiveTerminal.{out-ReactiveTerminal}

-- the numbers of the blocks that the labeled jumps met so far name
abbrev pub Targets : Type 0
Targets = FinSet nat_cmp

-- one of them is the block
abbrev pub is_target : Targets → BlockId → Bool
is_target targets block = contains targets block.0

-- the targets after a jump of that kind
abbrev pub with_jump : ReactiveTerminalTargetKind → BlockId → Targets → Targets
with_jump Labeled target targets = insert targets target.0
with_jump _ target targets = targets

-- the targets after a terminal, from those after its inside
abbrev pub targets_behind : UnrolledTerminal → Targets → Targets
targets_behind (layer.Break target kind id) targets = with_jump kind target targets
targets_behind (layer.Continue target kind id) targets = with_jump kind target targets
targets_behind _ targets = targets

-- something met so far names the label, where there is one
abbrev pub is_named : Targets → Option ReactiveLabel → Bool
is_named targets None = Bool.false
is_named targets (Some label) = is_target targets label.id

-- the label after the statement's inside: implicit where nothing names it
abbrev pub label_after : Targets → Option ReactiveLabel → Option ReactiveLabel
label_after targets None = None
label_after targets (Some label) =
    Some (if is_target targets label.id then label else record { id = label.id; implicit = Bool.true })

-- the statements of a `Label`, which replace it where nothing names it
abbrev pub flattened : Targets → Option ReactiveLabel → UnrolledTerminal → Option (List ReactiveStatement)
flattened targets label (layer.Label body id) = if is_named targets label then None else Some body.statements
flattened targets label _ = None

-- the replacement of a terminal
abbrev pub in_place_of : Targets → ReactiveTerminalStatement → Option (List ReactiveStatement) → List ReactiveStatement
in_place_of targets x (Some statements) = statements
in_place_of targets x None =
    reactive.Terminal (record { terminal = x.terminal; label = label_after targets x.label }) ∷ []

-- the replacement of a terminal whose inside is done, from the targets with its own
abbrev pub terminal_after : Targets → ReactiveTerminalStatement → List ReactiveStatement
terminal_after targets x = in_place_of targets x (flattened targets x.label (out-ReactiveTerminal x.terminal))

-- the rule for each statement
abbrev pub label_rules : Rules Targets
label_rules = record {
  row = λ x targets. Ok (targets, reactive.Instruction x ∷ []);
  terminal = λ x targets. Ok (
    targets_behind (out-ReactiveTerminal x.terminal) targets,
    terminal_after (targets_behind (out-ReactiveTerminal x.terminal) targets) x,
  );
  pruned_scope = λ x targets. Ok (targets, reactive.PrunedScope x ∷ []);
  into_scope = λ scope targets. targets;
  scope = λ met x targets. Ok (targets, reactive.Scope x ∷ []);
  block = keeps_statements;
}

-- the second block is the first one without its unused labels
pub record IsWithoutUnusedLabels (before after : ReactiveBlock) : Type 0 where
  pub targets : Targets
  pub rebuilt : rebuilt_block label_rules before empty ≡ Ok (targets, after)
