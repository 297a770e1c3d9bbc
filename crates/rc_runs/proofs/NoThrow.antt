-- The parts of a run without a throw have none either.
use Rattle.std.proofs.Common.{◌≡◌, false, List, ◌++◌, sym, ap, ◌∙◌}
use Rattle.std.proofs.lemmas.Bool.{or_parts}
use Rattle.std.proofs.lemmas.List.Folds.{list_any-append}
use Rattle.rc_runs.specs.Event.{Event, is_throw, has_throw}

module _ (first second : List Event) {events : List Event} where
  -- neither part has a throw
  no_throw_parts : events ≡ first ++ second → has_throw events ≡ false
      → (has_throw first ≡ false) × (has_throw second ≡ false)
  no_throw_parts e none =
      or_parts (has_throw first) (has_throw second)
      (sym (list_any-append is_throw first second) ∙ sym (ap has_throw e) ∙ none)

  -- the first part of a run
  pub no_throw_front : events ≡ first ++ second → has_throw events ≡ false → has_throw first ≡ false
  no_throw_front e none = (no_throw_parts e none).0

  -- the second part of a run
  pub no_throw_behind : events ≡ first ++ second → has_throw events ≡ false → has_throw second ≡ false
  no_throw_behind e none = (no_throw_parts e none).1
