use Rattle.std.proofs.Common.{◌≡◌, ◌≤◌, ◌<◌, ℕ, Some}
use Rattle.std.specs.Prelude.{slice_get}
use Rattle.rc_names.specs.Numbers.{BlockId}
use Rattle.rc_build.specs.inside.SilentArms.{IsArmBlock}
use Rattle.rc_build.proofs.builder.Builder.check_silent_since.Given as goal

abbrev pub invariant-loop-place : goal.invariant-loop-place
invariant-loop-place l = (i : ℕ) (key : BlockId) → l.fn.before ≤ i → i < l.place
    → slice_get l.fn.self.marks.used i ≡ Some key → IsArmBlock l.fn.self.hir.now l.fn.self.env.now key
