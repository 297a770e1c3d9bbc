-- The scopes of the scope blocks of a tree, at every depth, in the order in which the blocks end. A pruned block isn't
-- a scope block.
use Rattle.std.specs.Prelude.{List, [], ◌∷◌, ◌++◌}
use Rattle.std.specs.List.{IsDistinct}
use Rattle.rc_names.specs.Numbers.{ScopeId, same_id}
use Rattle.rc_tree.specs.Collected.{Contributions, collected}
use Rattle.rc_tree.specs.Joining.{lists}
use Rattle.rc_tree.specs.Model.{ReactiveBlock}

-- a scope block ends after those in it
abbrev pub scope_parts : Contributions (List ScopeId)
scope_parts = record {
  joining = lists;
  row = λ x. [];
  value = λ id x. [];
  place = λ id x. [];
  returned = λ id x. [];
  jump = λ target. [];
  label = λ label. [];
  scope = λ scope inside. inside ++ scope ∷ [];
  pruned_scope = λ scope inside. inside;
}

-- the scope of each scope block of the tree
abbrev pub scopes_in : ReactiveBlock → List ScopeId
scopes_in = collected scope_parts

-- no scope has two scope blocks in the tree
abbrev pub HasScopesOnce : ReactiveBlock → Type 0
HasScopesOnce body = IsDistinct same_id (scopes_in body)
