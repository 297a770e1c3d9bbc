use Rattle.std.proofs.Common.{◌≡◌, Bool, true, false, List, ◌∷◌, ◌||◌, ap, ◌∙◌, refl, if◌then◌else◌}
use Rattle.std.proofs.Common.{Option, None, Some}
use Rattle.rc_names.specs.Numbers.{BlockId}
use Rattle.rc_names.proofs.NumbersLemmas.{same_id-eq}
use Rattle.rc_runs.specs.declared.frames.Frame.{Frame}
use Rattle.rc_runs.specs.Frames.{break_block, continue_block, is_block, is_jump_target}
use Rattle.rc_build.specs.inside.LiveBlocks.{IsLiveOutside}
use Rattle.rc_build.proofs.frames.live_blocks.LiveBlocks.leave.Goals as goal

module _ (outer : List Frame) (key : BlockId) where
  -- a block of the frame that is left is live as it is outside
  as_outside : (block : Option BlockId) (live : Bool) → IsLiveOutside block live outer → is_block block key ≡ true
      → live ≡ is_jump_target outer key
  as_outside None live outside same = let bad : ⊥ = cc in absurd bad
  as_outside (Some block) live outside same =
      outside block refl ∙ ap (is_jump_target outer) (same_id-eq block key same)

  left : (frame : Frame) (break_live continue_live : Bool) → IsLiveOutside (break_block frame) break_live outer →
      IsLiveOutside (continue_block frame) continue_live outer →
      (a b : Bool) → is_block (break_block frame) key ≡ a → is_block (continue_block frame) key ≡ b →
      (if b then continue_live else (if a then break_live else (if (a || b) then true else is_jump_target outer key)))
      ≡ is_jump_target outer key
  left frame break_live continue_live breaks continues a true is also =
      as_outside (continue_block frame) continue_live continues also
  left frame break_live continue_live breaks continues true false is also =
      as_outside (break_block frame) break_live breaks is
  left frame break_live continue_live breaks continues false false is also = refl

pub returns-clause-told : goal.returns-clause-told
returns-clause-told c = λ outer breaks continues tell key place at.
    let frame = c.args.frame in
    let live = is_jump_target (frame ∷ outer) key in
    c.set-2.ensures.told _ (c.set.ensures.told (is_jump_target (frame ∷ outer)) tell) key place at
    ∙ ap Some (ap (λ b. if is_block b key then c.args.continue_live else (if is_block c.break_block.result key
    then c.args.break_live else live)) c.continue_block.ensures
    ∙ ap (λ b. if is_block (continue_block frame) key then c.args.continue_live else (if is_block b key
    then c.args.break_live else live)) c.break_block.ensures
    ∙ left outer key frame c.args.break_live c.args.continue_live breaks continues
    (is_block (break_block frame) key) (is_block (continue_block frame) key) refl refl)
