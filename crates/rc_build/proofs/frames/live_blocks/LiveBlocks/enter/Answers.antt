use Rattle.std.proofs.Common.{◌≡◌, Bool, true, false, ◌||◌, ap, ◌∙◌, refl, if◌then◌else◌, Some}
use Rattle.rc_runs.specs.Frames.{break_block, continue_block, is_block, is_jump_target}
use Rattle.rc_build.proofs.frames.live_blocks.LiveBlocks.enter.Goals as goal

pub returns-clause-told : goal.returns-clause-told
returns-clause-told c = λ outer tell key place at.
    c.set-2.ensures.told _ (c.set.ensures.told (is_jump_target outer) tell) key place at
    ∙ ap Some (ap (λ b. if is_block b key then true else (if is_block c.break_block.result key then true
    else is_jump_target outer key)) c.continue_block.ensures
    ∙ ap (λ b. if is_block (continue_block c.args.frame) key then true else (if is_block b key then true
    else is_jump_target outer key)) c.break_block.ensures
    ∙ either (is_block (break_block c.args.frame) key) (is_block (continue_block c.args.frame) key)
    (is_jump_target outer key))
  where
    either : (a b live : Bool) → (if b then true else (if a then true else live)) ≡ (if (a || b) then true else live)
    either true true live = refl
    either true false live = refl
    either false true live = refl
    either false false live = refl
