-- The block numbers of a tree, those that jumps name and those of labels, and when a new block is none of them.
use Rattle.std.specs.Prelude.{◌<◌, ℕ, All, List, [], ◌∷◌, Option, None, Some}
use Rattle.rc_hir.specs.Model.{Environment, ReactiveScope, ReactiveScopeEarlyReturn}
use Rattle.rc_names.specs.Numbers.{BlockId}
use Rattle.rc_tree.specs.Collected.{Contributions, collected}
use Rattle.rc_tree.specs.Joining.{lists}
use Rattle.rc_tree.specs.Model.{ReactiveBlock, ReactiveLabel}

-- the number of a label's block
abbrev pub label_block : Option ReactiveLabel → List BlockId
label_block None = []
label_block (Some label) = label.id ∷ []

abbrev pub block_parts : Contributions (List BlockId)
block_parts = record {
  joining = lists;
  row = λ x. [];
  value = λ id x. [];
  place = λ id x. [];
  returned = λ id x. [];
  jump = λ target. target ∷ [];
  label = label_block;
  scope = λ scope inside. inside;
  pruned_scope = λ scope inside. inside;
}

-- the block numbers of a tree
abbrev pub blocks_in : ReactiveBlock → List BlockId
blocks_in = collected block_parts

-- the label of the early return, if there is one, is below that number
abbrev pub IsLabelBelow : ℕ → Option ReactiveScopeEarlyReturn → Type 0
IsLabelBelow next None = Unit {0}
IsLabelBelow next (Some early) = early.label.0 < next

-- the next new block is above every block number of the tree, and above every label of an early return
pub record HasNewBlocks (body : ReactiveBlock) (env : Environment) : Type 0 where
  pub blocks : All (λ block. block.0 < env.next_block) (blocks_in body)
  pub labels : All (λ (scope : ReactiveScope). IsLabelBelow env.next_block scope.early_return_value) env.scopes
