use Rattle.std.proofs.Common.{◌≡◌, ◌||◌, true, map, reverse, sym, ap, ◌∙◌, arith}
use Rattle.std.specs.Prelude.{not, nat_eq}
use Rattle.rc_runs.specs.Frames.{is_jump_target}
use Rattle.rc_build.specs.inside.Depths.{frame_of, continue_depth}
use Rattle.rc_build.proofs.DepthsLemmas.{is_jump_target-depths}
use Rattle.rc_build.proofs.frames.stack.FrameStack.is_jump_target_at.Goals as goal

pub returns-in-Some : goal.returns-in-Some
returns-in-Some c =
    let frames = map frame_of (reverse c.self.inside.entries) in
    c.get.ensures (is_jump_target frames) c.self.invariant.of_live c.in-Some.live c.in-Some.is
    ∙ ap (λ fs. is_jump_target fs c.args.key) c.self.view_is

pub returns-then-at-ne0 : goal.returns-then-at-ne0
returns-then-at-ne0 c =
    let frames = map frame_of (reverse c.self.inside.entries) in
    let again = not (nat_eq (continue_depth frames c.args.key) 0) in
    let some : not (nat_eq c.at.result 0) ≡ true = grind (arith, c.if-at-ne0.true) in
    let depth = ap (λ d. not (nat_eq d 0)) (c.at.ensures ∙ c.self.invariant.of_breaks c.args.key) in
    some ∙ sym (is_jump_target-depths frames c.args.key ∙ ap (λ b. b || again) (sym depth ∙ some))
    ∙ ap (λ fs. is_jump_target fs c.args.key) c.self.view_is

pub returns-else-at-ne0 : goal.returns-else-at-ne0
returns-else-at-ne0 c =
    let frames = map frame_of (reverse c.self.inside.entries) in
    let again = not (nat_eq (continue_depth frames c.args.key) 0) in
    let none = ap (λ d. not (nat_eq d 0)) (sym (c.self.invariant.of_breaks c.args.key) ∙ sym c.at.ensures
    ∙ c.if-at-ne0.false) in
    let depth = ap (λ d. not (nat_eq d 0)) (c.at-else-at-ne0.ensures ∙ c.self.invariant.of_continues c.args.key) in
    depth ∙ sym (is_jump_target-depths frames c.args.key ∙ ap (λ b. b || again) none)
    ∙ ap (λ fs. is_jump_target fs c.args.key) c.self.view_is
