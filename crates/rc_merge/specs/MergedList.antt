-- A merged list: each scope block that joins the head before it moves into that head's block, with the rows between
-- them. It comes with the table of scopes after merging, and with which scope joined which head.
use Rattle.std.specs.Prelude.{Bool, true, false, List, [], ◌∷◌, ◌++◌, Option, None, Some, slice_set}
use Rattle.std.specs.Option.{option_map_or}
use Rattle.rc_hir.specs.Model.{Environment, ReactiveScope}
use Rattle.rc_merge.specs.Groups.{group_at, joins_at}
use Rattle.rc_merge.specs.Joining.{Copies}
use Rattle.rc_merge.specs.LastUses.{LastUses}
use Rattle.rc_merge.specs.Places.{Item, Passed, Block, NumberedScope, item_of}
use Rattle.rc_tree.specs.Unrolled.{UnrolledStatement}
use Rattle.rc_tree.specs.Model.{ReactiveScopeBlock, ReactiveStatement}
use Rattle.rc_tree.specs.declared.fate.Fate.TheVariants.{MergedInto}
use Rattle.rc_tree.specs.declared.fate.ScopeFate.{ScopeFate}
use Rattle.rc_tree.specs.declared.statement.ReactiveStatement.{roll-ReactiveStatement}
use Rattle.rc_tree.specs.declared.statement.ReactiveStatement.TheOpen as layer
use Rattle.rc_tree.specs.declared.statement.ReactiveStatement.TheVariants as reactive

-- the rest of a list, merged: the statements that move into the block before it, if a scope block joins that one, and
-- the statements that stay in the list
pub record Rest : Type 0 where
  pub pulled : Option (List ReactiveStatement)
  pub staying : List ReactiveStatement

-- a row moves into the block before it if a scope block after it does
abbrev pub passed_over : ReactiveStatement → Option (List ReactiveStatement) → List ReactiveStatement → Rest
passed_over statement None staying = record { pulled = None; staying = statement ∷ staying }
passed_over statement (Some inside) staying = record { pulled = Some (statement ∷ inside); staying = staying }

abbrev pub ends_group : ReactiveStatement → Rest → Rest
ends_group statement rest = record { pulled = None; staying = statement ∷ rest.staying }

abbrev pub pulled_of : Rest → List ReactiveStatement
pulled_of rest = option_map_or (λ inside. inside) rest.pulled []

-- the block with more statements at its end
abbrev pub filled : ReactiveScopeBlock → List ReactiveStatement → ReactiveScopeBlock
filled block more =
    record { scope = block.scope; instructions = record { statements = block.instructions.statements ++ more } }

-- a scope block that joins moves into the block before it; one that doesn't takes in the statements that move into it
abbrev pub met_block : Bool → ReactiveScopeBlock → Rest → Rest
met_block true block rest =
    record { pulled = Some (block.instructions.statements ++ pulled_of rest); staying = rest.staying }
met_block false block rest =
    record { pulled = None; staying = reactive.Scope (filled block (pulled_of rest)) ∷ rest.staying }

module _ (env : Environment) (uses : LastUses) (copies : Copies) (scopes : List ReactiveScope) where
  abbrev pub item : UnrolledStatement → Item
  item = item_of env scopes

  -- the list from a statement on, merged, from the items before it and the merged rest after it
  abbrev pub rest_by : Item → UnrolledStatement → List Item → Rest → Rest
  rest_by (Passed row) statement before rest =
      passed_over (roll-ReactiveStatement statement) rest.pulled rest.staying
  rest_by (Block scope) (layer.Scope block) before rest = met_block (joins_at env uses copies before scope) block rest
  rest_by _ statement before rest = ends_group (roll-ReactiveStatement statement) rest

  abbrev pub rest_at : List UnrolledStatement → List Item → Rest
  rest_at [] before = record { pulled = None; staying = [] }
  rest_at (statement ∷ statements) before =
      rest_by (item statement) statement before (rest_at statements (item statement ∷ before))

  -- the merged list
  abbrev pub merged_list : List UnrolledStatement → List ReactiveStatement
  merged_list statements = (rest_at statements []).staying

  -- the scopes after a scope block: if it joined, the head has grown
  abbrev pub scopes_after : Bool → NumberedScope → List ReactiveScope → List ReactiveScope
  scopes_after true group before = slice_set before group.number.0 group.own
  scopes_after false group before = before

  -- the scopes after the items
  abbrev pub scopes_at : List Item → List ReactiveScope
  scopes_at [] = scopes
  scopes_at (Block scope ∷ before) =
      scopes_after (joins_at env uses copies before scope) (group_at env uses copies before scope) (scopes_at before)
  scopes_at (_ ∷ before) = scopes_at before

  -- the decision on a scope block: if it joined, the head of its group
  abbrev pub told_of : Bool → NumberedScope → NumberedScope → List ScopeFate
  told_of true scope group = record { scope = scope.number; fate = MergedInto group.number } ∷ []
  told_of false scope group = []

  -- which scopes joined which head, in order
  abbrev pub joined_at : List Item → List ScopeFate
  joined_at [] = []
  joined_at (Block scope ∷ before) = joined_at before
      ++ told_of (joins_at env uses copies before scope) scope (group_at env uses copies before scope)
  joined_at (_ ∷ before) = joined_at before
