-- The scopes of the scope blocks of a tree, at every depth, in the order in which the read walk enters the blocks. A
-- pruned block isn't a scope block.
use Rattle.std.specs.Prelude.{List, [], ◌∷◌}
use Rattle.rc_names.specs.Numbers.{ScopeId}
use Rattle.rc_tree.specs.Collected.{Contributions, collected}
use Rattle.rc_tree.specs.Joining.{lists}
use Rattle.rc_tree.specs.Model.{ReactiveBlock}

-- a scope block is entered before those in it
abbrev pub entered_parts : Contributions (List ScopeId)
entered_parts = record {
  joining = lists;
  row = λ x. [];
  value = λ id x. [];
  place = λ id x. [];
  returned = λ id x. [];
  jump = λ target. [];
  label = λ label. [];
  scope = λ scope inside. scope ∷ inside;
  pruned_scope = λ scope inside. inside;
}

-- the scope of each scope block of the tree
abbrev pub scopes_entered : ReactiveBlock → List ScopeId
scopes_entered = collected entered_parts
