-- The places that the forms of `Places` hold.
use Rattle.std.specs.Prelude.{List}
use Rattle.rc_hir.specs.Model.{Place}
use Rattle.rc_hir.specs.declared.places.Form.{Form}
use Rattle.rc_hir.specs.declared.places.Form.TheVariants as forms

-- the places, in order
abbrev pub places_in : Form → List Place
places_in (forms.Borrowed places) = places.now
places_in (forms.One places) = places
places_in (forms.Two places) = places
places_in (forms.Three places) = places
places_in (forms.Gathered places) = places
