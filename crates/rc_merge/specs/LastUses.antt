-- The last use of each declaration: the greatest id at which a place of it is an operand, wherever in the tree.
use Rattle.std.specs.Prelude.{List, [], ◌∷◌, Option, None, Some, Ok, Err, nat_lt, if◌then◌else◌}
use Rattle.rc_hir.specs.Environment.{declaration_of}
use Rattle.rc_hir.specs.Model.{Environment}
use Rattle.rc_names.specs.Numbers.{DeclarationId, EvaluationOrder, same_id}
use Rattle.rc_tree.specs.Visits.{Visit, visits_of}
use Rattle.rc_tree.specs.Model.{ReactiveBlock}

-- the last use of each declaration, if it has one
abbrev pub LastUses : Type 0
LastUses = DeclarationId → Option EvaluationOrder

-- the later one of an id and another, if there is another
abbrev pub later_of : EvaluationOrder → Option EvaluationOrder → Option EvaluationOrder
later_of id None = Some id
later_of id (Some other) = if nat_lt id.0 other.0 then Some other else Some id

module _ (env : Environment) where
  -- the last uses among these visits; operands that can't be read don't count
  abbrev pub last_uses_of : List Visit → LastUses
  last_uses_of [] name = None
  last_uses_of (Ok operand ∷ visits) name =
      if same_id (declaration_of env operand.place.identifier) name
      then later_of operand.id (last_uses_of visits name) else last_uses_of visits name
  last_uses_of (Err fault ∷ visits) name = last_uses_of visits name

  -- the last uses in a body
  abbrev pub last_uses_in : ReactiveBlock → LastUses
  last_uses_in body = last_uses_of (visits_of env.functions body)
