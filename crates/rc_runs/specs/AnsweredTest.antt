-- Places of one declaration, and the values that answer a test.
use Rattle.std.specs.Prelude.{Bool, false, Option, Some, slice_get}
use Rattle.rc_names.specs.Numbers.{same_id}
use Rattle.rc_hir.specs.Model.{Place, Identifier, Environment}
use Rattle.rc_hir.specs.declared.instruction.InstructionValue.TheVariants as kinds
use Rattle.rc_runs.specs.PlainTree.{Value, Base}

-- both identifiers are there, and have one declaration
abbrev pub declared_alike : Option Identifier → Option Identifier → Bool
declared_alike (Some a) (Some b) = same_id a.declaration_id b.declaration_id
declared_alike _ _ = false

-- the identifiers of two places have one declaration
abbrev pub same_declaration : Environment → Place → Place → Bool
same_declaration env a b =
    declared_alike (slice_get env.identifiers a.identifier.0) (slice_get env.identifiers b.identifier.0)

-- with this value after it, a row that writes the place answers for the whole sequence: the value only loads the place
abbrev pub answers_test : Environment → Place → Value → Bool
answers_test env place (Base (kinds.LoadLocal loaded span)) = same_declaration env place loaded
answers_test env place value = false
