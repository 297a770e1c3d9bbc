-- The groups of a list of statements: which head a scope block joins, by the statements before it.
--
-- The items before a place are listed with the nearest one first.
use Rattle.std.specs.Prelude.{Bool, true, false, List, [], ◌∷◌, ◌++◌, Option, None, Some, if◌then◌else◌}
use Rattle.rc_hir.specs.Model.{Environment}
use Rattle.rc_names.specs.Numbers.{DeclarationId}
use Rattle.rc_merge.specs.LastUses.{LastUses}
use Rattle.rc_merge.specs.Joining.{Copies, begins, grown, joins, with_copy}
use Rattle.rc_merge.specs.Places.{Item, Passed, Block, Other, NumberedScope}

-- the names that rows write between a place and the nearest statement before it that doesn't pass
abbrev pub names_at : List Item → List DeclarationId
names_at (Passed row ∷ before) = names_at before ++ row.names
names_at _ = []

module _ (env : Environment) (uses : LastUses) where
  -- rows are noted after a scope block that begins a group, up to the next statement that doesn't pass
  abbrev pub notes : List Item → Bool
  notes [] = false
  notes (Passed row ∷ before) = notes before
  notes (Block scope ∷ before) = begins env scope.own
  notes (Other ∷ before) = false

  -- the copies that are known at a place: those that noted rows make
  abbrev pub copies_at : Copies → List Item → Copies
  copies_at copies [] = copies
  copies_at copies (Passed row ∷ before) =
      if notes before then with_copy (copies_at copies before) row.copy else copies_at copies before
  copies_at copies (_ ∷ before) = copies_at copies before

  -- the scope joins that head, if there is one
  abbrev pub joins_if : Copies → Option NumberedScope → List DeclarationId → NumberedScope → Bool
  joins_if copies None names scope = false
  joins_if copies (Some head) names scope = joins env uses copies head.own names scope.own

  -- the head after a scope block: the grown head if the scope joins it, and else the scope itself
  abbrev pub head_after : Bool → Option NumberedScope → NumberedScope → NumberedScope
  head_after true (Some head) scope = grown env uses head scope
  head_after _ head scope = scope

  -- the head that a scope block at this place may join, as grown so far. There is one if the scope of the block before
  -- this place may begin a group, judged as it was before it joined any head.
  abbrev pub head_at : Copies → List Item → Option NumberedScope
  head_at copies [] = None
  head_at copies (Passed row ∷ before) = head_at copies before
  head_at copies (Other ∷ before) = None
  head_at copies (Block scope ∷ before) =
      if begins env scope.own then Some (head_after (joins_if (copies_at copies before) (head_at copies before)
      (names_at before) scope) (head_at copies before) scope) else None

  -- the scope block at this place joins the head
  abbrev pub joins_at : Copies → List Item → NumberedScope → Bool
  joins_at copies before scope =
      joins_if (copies_at copies before) (head_at copies before) (names_at before) scope

  -- the head of its group, as grown through it
  abbrev pub group_at : Copies → List Item → NumberedScope → NumberedScope
  group_at copies before scope = head_after (joins_at copies before scope) (head_at copies before) scope
