-- Jumps whose target isn't met, which the check of break targets refuses.
--
-- The check meets the terminals of a list, and those of the scope and pruned scope blocks in it, at every depth of
-- scopes. It doesn't enter a terminal.
use Rattle.std.specs.Prelude.{◌≡◌, ℕ, suc, List, [], ◌∷◌, Option, None, Some, Contains, flat_map, slice_get, take}
use Rattle.std.specs.Prelude.{option_and_then}
use Rattle.rc_names.specs.Numbers.{BlockId}
use Rattle.rc_tree.specs.TreeFold.{TreeFold, over_block}
use Rattle.rc_tree.specs.Model.{ReactiveBlock, ReactiveLabel}
use Rattle.rc_tree.specs.declared.statement.ReactiveStatement.TheOpen as layer
use Rattle.rc_tree.specs.declared.statement.ReactiveStatement.TheOpen.{ReactiveStatement-F, ReactiveTerminal-F}

-- a terminal that is met: its label, and the block that it names where it is a jump
pub record MetTerminal : Type 0 where
  pub label : Option ReactiveLabel
  pub target : Option BlockId

-- terminals in the order of the text
abbrev pub Terminals : Type 0
Terminals = List MetTerminal

-- the block that a break or continue names
abbrev pub target_of : {S T P C B K L : Type 0} → ReactiveTerminal-F S T P C B K L → Option BlockId
target_of (layer.Break target kind id) = Some target
target_of (layer.Continue target kind id) = Some target
target_of _ = None

-- a statement has the terminals that its part has
abbrev pub of_statement : ReactiveStatement-F Terminals (Option BlockId) Terminals Terminals Terminals (Unit {0})
    Terminals → Terminals
of_statement (layer.Instruction row) = []
of_statement (layer.Terminal terminals) = terminals
of_statement (layer.Scope terminals) = terminals
of_statement (layer.PrunedScope terminals) = terminals

-- a terminal is met with its label, and the terminals of the blocks inside it are left out
abbrev pub meeting : TreeFold Terminals (Option BlockId) Terminals Terminals Terminals (Unit {0}) Terminals
meeting = record {
  statement = of_statement;
  terminal = target_of;
  pruned_scope = λ x. x.instructions;
  scope = λ x. x.instructions;
  block = λ x. flat_map (λ terminals. terminals) x.statements;
  case = λ x. tt;
  labeled = λ x. record { label = x.label; target = x.terminal } ∷ [];
}

-- the terminals that are met in a list, and at a statement
unfoldable pub met_in : ReactiveBlock → Terminals
met_in = over_block meeting

-- the block of a label, where there is one
abbrev pub label_block : Option ReactiveLabel → List BlockId
label_block None = []
label_block (Some label) = label.id ∷ []

-- the labels of these terminals
abbrev pub labels_of : Terminals → List BlockId
labels_of terminals = flat_map (λ (x : MetTerminal). label_block x.label) terminals

-- the terminal at that place is a jump to that block
abbrev pub IsJumpTo : Terminals → ℕ → BlockId → Type 0
IsJumpTo met place target = option_and_then (λ (x : MetTerminal). x.target) (slice_get met place) ≡ Some target

-- the labels of the terminals up to that place, its own included
abbrev pub labels_by : Terminals → ℕ → List BlockId
labels_by met place = labels_of (take (suc place) met)

-- each jump names a label that is met by then
abbrev pub HasMetTargets : Terminals → Type 0
HasMetTargets met = (place : ℕ) (target : BlockId) → IsJumpTo met place target → Contains (labels_by met place) target

-- the first jump that names no label met by then names that block
pub record IsFirstUnmet (met : Terminals) (target : BlockId) : Type 0 where
  pub place : ℕ
  pub jumps : IsJumpTo met place target
  pub unmet : Contains (labels_by met place) target → ⊥
  pub before : HasMetTargets (take place met)
