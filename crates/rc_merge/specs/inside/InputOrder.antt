-- An order of inputs, in which exactly the same inputs tie.
use Rattle.std.specs.Prelude.{◌≡◌, ℕ, Bool, true, false, List, refl}
use Rattle.std.proofs.Common.{subst, sym}
use Rattle.std.specs.declared.cmp.Ordering.{Ordering}
use Rattle.std.specs.Bool.{beq}
use Rattle.std.specs.Cmp.{IsEquivalence, IsTotalOrder, bool_cmp_total, both_tied, eq_by_cmp_equiv, nat_cmp_total}
use Rattle.std.specs.Cmp.{on_total, then_total, unsigned_ties}
use Rattle.std.specs.Cmp.Lexicographic.{lists_ties, lists_total, slice_cmp}
use Rattle.std.specs.Ordering.{bool_cmp, eq_by_cmp, nat_cmp, on, then_cmp}
use Rattle.rc_hir.specs.Model.{DependencyPathEntry, PropertyLiteral}
use Rattle.rc_hir.specs.declared.pattern.PropertyLiteral.TheVariants as property
use Rattle.rc_merge.specs.Inputs.{Input, same_input, same_property, same_step}

abbrev is_number : PropertyLiteral → Bool
is_number (property.String _) = false
is_number (property.Number _) = true

abbrev text_of : PropertyLiteral → List ℕ
text_of (property.String text) = text
text_of (property.Number text) = text

-- texts come before numbers
abbrev pub property_order : PropertyLiteral → PropertyLiteral → Ordering
property_order = then_cmp (on is_number bool_cmp) (on text_of (slice_cmp nat_cmp))

abbrev pub step_order : DependencyPathEntry → DependencyPathEntry → Ordering
step_order = then_cmp (on (λ step. step.property) property_order) (on (λ step. step.optional) bool_cmp)

-- by declaration, and then by path
abbrev pub input_order : Input → Input → Ordering
input_order = then_cmp (on (λ input. input.declaration.0) nat_cmp) (on (λ input. input.path) (slice_cmp step_order))

property_order_total : IsTotalOrder property_order
property_order_total = then_total (on_total is_number bool_cmp_total) (on_total text_of (lists_total nat_cmp_total))

step_order_total : IsTotalOrder step_order
step_order_total =
    then_total (on_total (λ step. step.property) property_order_total) (on_total (λ step. step.optional) bool_cmp_total)

pub input_order_total : IsTotalOrder input_order
input_order_total = then_total (on_total (λ input. input.declaration.0) nat_cmp_total)
    (on_total (λ input. input.path) (lists_total step_order_total))

flag_ties : (a b : Bool) → beq a b ≡ eq_by_cmp bool_cmp a b
flag_ties true true = refl
flag_ties true false = refl
flag_ties false true = refl
flag_ties false false = refl

property_ties : (a b : PropertyLiteral) → same_property a b ≡ eq_by_cmp property_order a b
property_ties (property.String a) (property.String b) = lists_ties nat_cmp unsigned_ties a b
property_ties (property.String a) (property.Number b) = refl
property_ties (property.Number a) (property.String b) = refl
property_ties (property.Number a) (property.Number b) = lists_ties nat_cmp unsigned_ties a b

step_ties : (a b : DependencyPathEntry) → same_step a b ≡ eq_by_cmp step_order a b
step_ties a b = both_tied _ _ (property_order a.property b.property) (bool_cmp a.optional b.optional)
    (property_ties a.property b.property) (flag_ties a.optional b.optional)

pub input_ties : (a b : Input) → same_input a b ≡ eq_by_cmp input_order a b
input_ties a b = both_tied _ _ (nat_cmp a.declaration.0 b.declaration.0) (slice_cmp step_order a.path b.path)
    (unsigned_ties a.declaration.0 b.declaration.0) (lists_ties step_order step_ties a.path b.path)

pub same_input_equivalence : IsEquivalence same_input
same_input_equivalence = subst IsEquivalence (λ i a b. sym (input_ties a b) i) (eq_by_cmp_equiv input_order_total)

pub same_step_equivalence : IsEquivalence same_step
same_step_equivalence = subst IsEquivalence (λ i a b. sym (step_ties a b) i) (eq_by_cmp_equiv step_order_total)
