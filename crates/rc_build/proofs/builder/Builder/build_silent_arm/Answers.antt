use Rattle.std.proofs.Common.{arith, ap, length}
use Rattle.rc_build.proofs.ArmBlockLemmas.{arm_done, arm_further, arm_further_can, arm_refused_behind, arm_start}
use Rattle.rc_build.proofs.BuildsLemmas.{is_built, passes_on, same_graph, any_site}
use Rattle.rc_build.proofs.ListLemmas.{same_blocks, used_longer}
use Rattle.rc_build.proofs.MarksLemmas.{room}
use Rattle.rc_build.proofs.builder.Builder.build_silent_arm.Goals as goal

pub chain-init : goal.chain-init
chain-init c = arm_start c.requires

pub build_arm_block-requires : goal.build_arm_block-requires
build_arm_block-requires c = arm_further_can c.chain.invariant c.in-Some.is (any_site c.args.arm) c.requires

pub returns-in_err-at : goal.returns-in_err-at
returns-in_err-at c = λ site.
    let s = c.chain.invariant in
    passes_on c.from_residual.ensures.1 (same_graph (s.setting site)) (c.in_err-at.ensures site)
    (arm_refused_behind s c.in-Some.is site)

pub chain-preserved : goal.chain-preserved
chain-preserved c = arm_further c.chain.invariant c.in-Some.is (any_site c.args.arm)
    (λ site. (c.in_ok-at.ensures site).frames) (c.in_ok-at.ensures (any_site c.args.arm)).ok

pub chain-smaller : goal.chain-smaller
chain-smaller c =
    let site = any_site c.args.arm in
    let block = c.in_ok-at.ensures site in
    omega (
      arith,
      room c.chain.self.hir.now c.build_arm_block.new.self.marks block.ok.prefix.marking.marked,
      same_blocks c.chain.self c.build_arm_block.new.self site block.frames,
      used_longer block.ok.prefix.marking,
      ap length block.ok.newly_is,
    )

pub returns : goal.returns
returns c = λ site.
    let s = c.chain.invariant in
    is_built _ (arm_done s c.in_default.is) (s.setting site)
