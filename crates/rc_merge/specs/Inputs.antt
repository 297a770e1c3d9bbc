-- The inputs of a scope: its dependencies, each as the declaration of its name and the path from it; and which lists of
-- inputs are the same.
use Rattle.std.specs.Prelude.{Bool, false, List, [], map, length, nat_eq, ◌&&◌}
use Rattle.std.specs.Cmp.Lexicographic.{pointwise}
use Rattle.std.specs.Bool.{beq}
use Rattle.std.specs.List.{list_all, list_any}
use Rattle.rc_hir.specs.Environment.{declaration_of}
use Rattle.rc_hir.specs.Model.{DeclarationEntry, DependencyPathEntry, Environment, PropertyLiteral}
use Rattle.rc_hir.specs.Model.{ReactiveScopeDependency}
use Rattle.rc_hir.specs.declared.pattern.PropertyLiteral.TheVariants as property
use Rattle.rc_names.specs.Numbers.{DeclarationId, same_id}

-- a declaration, with the path from its value to a part of it
pub record Input : Type 0 where
  pub declaration : DeclarationId
  pub path : List DependencyPathEntry

-- equal properties: a text isn't a number
abbrev pub same_property : PropertyLiteral → PropertyLiteral → Bool
same_property (property.String a) (property.String b) = pointwise nat_eq a b
same_property (property.Number a) (property.Number b) = pointwise nat_eq a b
same_property _ _ = false

abbrev pub same_step : DependencyPathEntry → DependencyPathEntry → Bool
same_step a b = same_property a.property b.property && beq a.optional b.optional

-- the same declaration, and the same steps from it
abbrev pub same_input : Input → Input → Bool
same_input a b = same_id a.declaration b.declaration && pointwise same_step a.path b.path

-- each of the first inputs is one of the second
abbrev pub are_inputs_of : List Input → List Input → Bool
are_inputs_of a b = list_all (λ input. list_any (same_input input) b) a

-- as many inputs, and each of one list is in the other, whichever of the two lists it is in
abbrev pub same_inputs : List Input → List Input → Bool
same_inputs a b = nat_eq (length a) (length b) && are_inputs_of a b && are_inputs_of b a

-- the whole value of a declaration
abbrev pub whole : DeclarationId → Input
whole declaration = record { declaration = declaration; path = [] }

module _ (env : Environment) where
  abbrev pub input_of : ReactiveScopeDependency → Input
  input_of dependency = record { declaration = declaration_of env dependency.identifier; path = dependency.path }

  -- the inputs of a list of dependencies
  abbrev pub inputs_of : List ReactiveScopeDependency → List Input
  inputs_of dependencies = map input_of dependencies

  -- the declared values of a scope as inputs, each whole
  abbrev pub as_inputs : List DeclarationEntry → List Input
  as_inputs entries = map (λ entry. whole (declaration_of env entry.value.identifier)) entries
