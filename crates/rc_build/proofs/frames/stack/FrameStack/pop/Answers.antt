use Rattle.std.proofs.Common.{◌≡◌, ◌+◌, ◌∷◌, [], length, map, reverse, ap, ◌∙◌, subst, if◌then◌else◌}
use Rattle.std.proofs.lemmas.List.{reverse-append}
use Rattle.rc_runs.specs.Frames.{break_block, continue_block, is_block}
use Rattle.rc_build.specs.inside.Depths.{AreDepths, break_depth, continue_depth, depth_at, frame_of}
use Rattle.rc_build.proofs.StackLemmas.{as_outside}
use Rattle.rc_build.proofs.frames.stack.FrameStack.pop.Goals as goal

pub invariant_of-self-2 : goal.invariant_of-self-2
invariant_of-self-2 c =
    let inside = c.self.inside in
    let entry = c.in-Some.entry in
    let outer = reverse c.pop.new.self in
    let frames = map frame_of outer in
    let whole : reverse inside.entries ≡ entry ∷ outer = ap reverse c.in-Some.ensures.last
    ∙ reverse-append c.pop.new.self (entry ∷ []) in
    let old = subst (λ s. AreDepths s inside.breaks inside.continues inside.live) whole c.self.invariant in
    record {
      outer = old.outer.1;
      of_breaks = λ key. c.set.ensures.depths key
          ∙ ap (λ b. if is_block b key then entry.outer_break else depth_at inside.breaks key) c.break_block.ensures
          ∙ ap (λ d. if is_block (break_block entry.frame) key then entry.outer_break else d) (old.of_breaks key)
          ∙ as_outside (break_block entry.frame) entry.outer_break (length frames + 1) (break_depth frames)
          old.outer.0.outer_break key;
      of_continues = λ key. c.set-2.ensures.depths key
          ∙ ap (λ b. if is_block b key then entry.outer_continue else depth_at inside.continues key)
          c.continue_block.ensures
          ∙ ap (λ d. if is_block (continue_block entry.frame) key then entry.outer_continue else d)
          (old.of_continues key)
          ∙ as_outside (continue_block entry.frame) entry.outer_continue (length frames + 1) (continue_depth frames)
          old.outer.0.outer_continue key;
      of_live = c.leave.ensures.told frames old.outer.0.break_live old.outer.0.continue_live old.of_live;
      breaks_room = c.set.ensures.room old.breaks_room;
      continues_room = c.set-2.ensures.room old.continues_room;
      live_room = c.leave.ensures.room;
    }
