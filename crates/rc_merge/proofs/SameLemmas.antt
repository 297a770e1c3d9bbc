-- Inputs that are the same are equal, and the second of two lists that are the same has no input but those of the
-- first.
use Rattle.std.proofs.Common.{◌≡◌, List, true, ap, subst, sym}
use Rattle.std.proofs.lemmas.Bool.{and_parts}
use Rattle.std.specs.Bool.{Decides, beq}
use Rattle.std.specs.Cmp.{booleans_Decides}
use Rattle.std.specs.Cmp.Lexicographic.{bytes_decides, pointwise, pointwise_decides}
use Rattle.rc_hir.specs.Model.{DependencyPathEntry, PropertyLiteral}
use Rattle.rc_hir.specs.declared.pattern.PropertyLiteral.TheVariants as property
use Rattle.rc_names.specs.Numbers.{same_id}
use Rattle.rc_names.proofs.NumbersLemmas.{same_id-eq}
use Rattle.rc_merge.proofs.Elements.{In, Subset, any_in, in_any}
use Rattle.rc_merge.proofs.SameInputsLemmas.{have_same}
use Rattle.rc_merge.specs.Inputs.{Input, same_input, same_inputs, same_property, same_step}
use Rattle.rc_merge.specs.inside.InputOrder.{same_input_equivalence, same_step_equivalence}

property_same : (a b : PropertyLiteral) → same_property a b ≡ true → a ≡ b
property_same (property.String a) (property.String b) e = ap property.String ((bytes_decides a b).0 e)
property_same (property.Number a) (property.Number b) e = ap property.Number ((bytes_decides a b).0 e)
property_same (property.String a) (property.Number b) e = absurd (let bad : ⊥ = cc in bad)
property_same (property.Number a) (property.String b) e = absurd (let bad : ⊥ = cc in bad)

step_same : (a b : DependencyPathEntry) → same_step a b ≡ true → a ≡ b
step_same a b e =
    let h = and_parts (same_property a.property b.property) (beq a.optional b.optional) e in
    λ i. record {
      property = property_same a.property b.property h.0 i;
      optional = (booleans_Decides a.optional b.optional).0 h.1 i;
    }

step_decides : (a b : DependencyPathEntry) → Decides (same_step a b) (a ≡ b)
step_decides a b = (step_same a b, λ e. subst (λ x. same_step a x ≡ true) e (same_step_equivalence.refl a))

pub input_same : (a b : Input) → same_input a b ≡ true → a ≡ b
input_same a b e =
    let h = and_parts (same_id a.declaration b.declaration) (pointwise same_step a.path b.path) e in
    λ i. record {
      declaration = same_id-eq a.declaration b.declaration h.0 i;
      path = (pointwise_decides step_decides a.path b.path).0 h.1 i;
    }

-- each input of the second list is one of the first
pub same_covers : (a b : List Input) → same_inputs a b ≡ true → Subset b a
same_covers a b e x m =
    let has = (have_same a b e).back x (any_in (same_input x) b x m (same_input_equivalence.refl x)) in
    let found = in_any (same_input x) a has in
    subst (λ y. In y a) (sym (input_same x found.0 found.2)) found.1
