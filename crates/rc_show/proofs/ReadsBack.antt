-- The printing form of a part reads as that part again: numbers, spans and places.
use Rattle.std.proofs.Common.{◌≡◌, ℕ, ◌<◌, ◌^◌, Bool, true, false, Option, None, Some, arith, refl}
use Rattle.std.proofs.lemmas.Bool.Decides.{nat_tests}
use Rattle.serde_json.specs.Data.{string}
use Rattle.rc_names.specs.declared.numbers.Id.{Id}
use Rattle.rc_names.specs.declared.span.Span.{Span}
use Rattle.rc_hir.specs.Model.{Effect, Place}
use Rattle.rc_hir.specs.declared.place.Effect.TheVariants as effects
use Rattle.rc_names.specs.Numbers.{to_id}
use Rattle.rc_doc.specs.Numbers.{id_of}
use Rattle.rc_doc.specs.Places.{effect_of, place_of, span_of}
use Rattle.rc_doc.specs.Reading.{number_of}
use Rattle.rc_show.specs.Showing.{id_data, number_data, IsReadAgain}
use Rattle.rc_show.specs.ShownParts.Places.{effect_name, is_short, long_form, place_data, span_data}

pub number_again : (n : ℕ) → n < 2 ^ 32 → number_of (number_data n) ≡ Some n
number_again n h = grind (arith, nat_tests)

pub id_again : {K : Type 0} (x : Id K) → number_of (number_data x.0) ≡ Some x.0 → id_of (id_data x) ≡ Some x
id_again x h = rw h refl

pub span_again : (s : Span) → s.start < 2 ^ 32 → s.end < 2 ^ 32 → span_of (span_data s) ≡ Some s
unfolding span_of
span_again s h k = rw (number_again s.start h, number_again s.end k) refl

effect_again : (e : Effect) → effect_of (string (effect_name e)) ≡ Some e
effect_again effects.Unknown = refl
effect_again effects.Freeze = refl
effect_again effects.Read = refl
effect_again effects.Capture = refl
effect_again effects.ConditionallyMutateIterator = refl
effect_again effects.ConditionallyMutate = refl
effect_again effects.Mutate = refl
effect_again effects.Store = refl

-- the place with these fields
abbrev place : ℕ → Effect → Bool → Option Span → Place
place i e r s = record { identifier = to_id i; effect = e; reactive = r; span = s }

from_long : (i : ℕ) (e : Effect) (r : Bool) (s : Option Span) → i < 2 ^ 32 → IsReadAgain span_of span_data s
    → place_of (long_form (place i e r s)) ≡ Some (place i e r s)
unfolding place_of
from_long i e r None h k = rw (number_again i h, effect_again e) refl
from_long i e r (Some s) h k = rw (k, number_again i h, effect_again e) refl

from_short : (i : ℕ) (e : Effect) (r : Bool) (s : Option Span) → i < 2 ^ 32 → is_short (place i e r s) ≡ true
    → place_of (number_data i) ≡ Some (place i e r s)
unfolding place_of
from_short i effects.Read false None h k = rw (number_again i h) refl
from_short i effects.Read true s h k = cc
from_short i effects.Read false (Some s) h k = cc
from_short i effects.Unknown r s h k = cc
from_short i effects.Freeze r s h k = cc
from_short i effects.Capture r s h k = cc
from_short i effects.ConditionallyMutateIterator r s h k = cc
from_short i effects.ConditionallyMutate r s h k = cc
from_short i effects.Mutate r s h k = cc
from_short i effects.Store r s h k = cc

module _ (p : Place) where
  pub place_data-short : is_short p ≡ true → place_data p ≡ number_data p.identifier.0
  unfolding place_data
  place_data-short k = rw k refl

  pub place_data-long : is_short p ≡ false → place_data p ≡ long_form p
  unfolding place_data
  place_data-long k = rw k refl

  pub short_again : p.identifier.0 < 2 ^ 32 → is_short p ≡ true → place_of (place_data p) ≡ Some p
  short_again h k = rw (place_data-short k) (from_short p.identifier.0 p.effect p.reactive p.span h k)

  pub long_again : p.identifier.0 < 2 ^ 32 → is_short p ≡ false → IsReadAgain span_of span_data p.span
      → place_of (place_data p) ≡ Some p
  long_again h k s = rw (place_data-long k) (from_long p.identifier.0 p.effect p.reactive p.span h s)

-- the printing form of a place, which reads as that place again
pub ruleset placing = (place_data-short, place_data-long, short_again, long_again)
