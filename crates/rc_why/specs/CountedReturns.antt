-- The scope blocks of a tree, at every depth and in the order in which they end, each with the number of `Return`s in
-- it.
--
-- They are those of rc_checks, with a number in the place of the truth value: a `Return` counts in the innermost scope
-- block around it alone, and a pruned block isn't a scope block.
use Rattle.std.specs.Prelude.{◌+◌, ◌++◌, ℕ, zero, suc, Bool, true, false, List, [], ◌∷◌}
use Rattle.rc_checks.specs.ScopeBlocks.{ScopeBlock}
use Rattle.rc_names.specs.Numbers.{ScopeId}
use Rattle.rc_tree.specs.Collected.{Contributions, collected}
use Rattle.rc_tree.specs.Joining.{Joining}
use Rattle.rc_tree.specs.Model.{ReactiveBlock}

-- a scope block: the number of its scope, and how many `Return`s are in it outside the scope blocks in it
pub record CountedBlock : Type 0 where
  pub scope : ScopeId
  pub returns : ℕ

-- the contents of a part: how many `Return`s are in it outside its scope blocks, and its scope blocks
pub record CountedReturns : Type 0 where
  pub outside : ℕ
  pub blocks : List CountedBlock

-- the contents of one part, and then those of another
abbrev pub counted_joining : Joining CountedReturns
counted_joining = record {
  nothing = record { outside = 0; blocks = [] };
  both = λ a b. record { outside = a.outside + b.outside; blocks = a.blocks ++ b.blocks };
}

-- a scope block ends after those in it, and a `Return` in it isn't outside
abbrev pub counted_parts : Contributions CountedReturns
counted_parts = record {
  joining = counted_joining;
  row = λ x. counted_joining.nothing;
  value = λ id x. counted_joining.nothing;
  place = λ id x. counted_joining.nothing;
  returned = λ id x. record { outside = 1; blocks = [] };
  jump = λ target. counted_joining.nothing;
  label = λ label. counted_joining.nothing;
  scope = λ scope inside. record {
    outside = 0;
    blocks = inside.blocks ++ record { scope = scope; returns = inside.outside } ∷ [];
  };
  pruned_scope = λ scope inside. inside;
}

-- the scope blocks of the tree
abbrev pub counted_blocks : ReactiveBlock → List CountedBlock
counted_blocks body = (collected counted_parts body).blocks

-- the number isn't 0
abbrev pub is_some_number : ℕ → Bool
is_some_number zero = false
is_some_number (suc n) = true

-- the scope block with whether a `Return` is in it
abbrev pub uncounted_block : CountedBlock → ScopeBlock
uncounted_block block = record { scope = block.scope; returns = is_some_number block.returns }
