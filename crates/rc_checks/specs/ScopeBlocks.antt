-- The scope blocks of a tree, at every depth and in the order in which they end, each with whether a `Return` is in it.
--
-- A `Return` is in the innermost scope block around it alone. A pruned block isn't a scope block, so its `Return`s are
-- in the block around it.
use Rattle.std.specs.Prelude.{Bool, true, false, List, [], ◌∷◌, ◌++◌, map, ◌||◌}
use Rattle.rc_names.specs.Numbers.{ScopeId}
use Rattle.rc_tree.specs.Collected.{Contributions, collected}
use Rattle.rc_tree.specs.Joining.{Joining}
use Rattle.rc_tree.specs.Model.{ReactiveBlock}

-- a scope block: the number of its scope, and whether a `Return` is in it
pub record ScopeBlock : Type 0 where
  pub scope : ScopeId
  pub returns : Bool

-- the contents of a part of the tree: whether a `Return` is in it outside its scope blocks, and its scope blocks
pub record Contents : Type 0 where
  pub returns : Bool
  pub blocks : List ScopeBlock

-- the contents of one part, and then those of another
abbrev pub joining : Joining Contents
joining = record {
  nothing = record { returns = false; blocks = [] };
  both = λ a b. record { returns = a.returns || b.returns; blocks = a.blocks ++ b.blocks };
}

-- a scope block ends after those in it, and a `Return` in it isn't outside
abbrev pub contents_of_parts : Contributions Contents
contents_of_parts = record {
  joining = joining;
  row = λ x. joining.nothing;
  value = λ id x. joining.nothing;
  place = λ id x. joining.nothing;
  returned = λ id x. record { returns = true; blocks = [] };
  jump = λ target. joining.nothing;
  label = λ label. joining.nothing;
  scope = λ scope inside. record {
    returns = false;
    blocks = inside.blocks ++ record { scope = scope; returns = inside.returns } ∷ [];
  };
  pruned_scope = λ scope inside. inside;
}

-- the contents of the tree
abbrev pub contents : ReactiveBlock → Contents
contents = collected contents_of_parts

-- the scope blocks of the tree
abbrev pub scope_blocks : ReactiveBlock → List ScopeBlock
scope_blocks block = (contents block).blocks

-- the scopes of the scope blocks that a part has
abbrev pub scopes_of : Contents → List ScopeId
scopes_of part = map (λ (block : ScopeBlock). block.scope) part.blocks
