use Rattle.std.proofs.Common.{[], Err, refl, sym, ap, ◌∙◌, subst}
use Rattle.rc_hir.specs.declared.fault.Rule.TheVariants as rules
use Rattle.rc_build.specs.inside.SilentArms.{HasSilentRows}
use Rattle.rc_build.proofs.ArmBlockLemmas.{arm_behind, arm_ends, arm_rows, arm_rows_are, arm_there, arm_unusable}
use Rattle.rc_build.proofs.ArmBlockLemmas.{chain_prefix, last_prefix}
use Rattle.rc_build.proofs.BuildsLemmas.{breaks_rule, fails, is_built, passes_on}
use Rattle.rc_build.proofs.MarksLemmas.{referenced_once}
use Rattle.rc_build.proofs.MayThrowLemmas.{handler_fact}
use Rattle.rc_build.proofs.builder.Builder.build_arm_block.Goals as goal

pub block_with_id-requires : goal.block_with_id-requires
block_with_id-requires c =
    referenced_once c.args.self.now.hir.now c.args.self.now.marks.used c.args.key [] c.requires.referenced

pub check_silent_rows-requires : goal.check_silent_rows-requires
check_silent_rows-requires c = rw c.as_slice.ensures (arm_rows_are c.in_ok-found.ensures.found c.requires)

pub returns-in_err-check_silent_rows : goal.returns-in_err-check_silent_rows
returns-in_err-check_silent_rows c = λ site. fails c.from_residual-in_err-check_silent_rows.ensures.1
    c.in_err-check_silent_rows.ensures.facts (λ named rule e blocks d sound.
    c.in_err-check_silent_rows.ensures.refused named rule (ap Err e)
    (subst (HasSilentRows c.args.self.now.hir.now c.args.self.now.env.now) (sym c.as_slice.ensures)
    (arm_rows c.in_ok-found.ensures.found d)))

pub returns-then-not-is_current : goal.returns-then-not-is_current
returns-then-not-is_current c = λ site.
    let found = c.in_ok-found.ensures.found in
    let throw = c.in-Some.throw in
    let throws = sym c.may_throw.ensures ∙ c.in-Some.is in
    let other = sym c.is_current.ensures ∙ c.if-not-is_current.true in
    breaks_rule c.args.key rules.Handler c.malformed.ensures
    (λ blocks d sound. let current = (arm_behind found throw throws d).0 in let bad : ⊥ = cc in bad)
    (handler_fact c.args.self.now.hir.now c.args.key c.in_ok-found.found.block.now found throw c.args.handler throws
    other)

pub returns-in_err-mark_block : goal.returns-in_err-mark_block
returns-in_err-mark_block c = λ site.
    passes_on c.from_residual-in_err-mark_block.ensures.1 refl (c.in_err-mark_block.ensures site)
    (arm_unusable c.args.self.now.marks)

pub returns-in-Some : goal.returns-in-Some
returns-in-Some c = λ site.
    let block = c.in_ok-found.ensures in
    let marked = c.in_ok-mark_block.ensures site in
    is_built _ (chain_prefix block.found block.own
    (subst (HasSilentRows c.args.self.now.hir.now c.args.self.now.env.now) c.as_slice.ensures
    c.in_ok-check_silent_rows.ensures.ok) block.set marked.ok c.in-Some.throw (sym c.may_throw.ensures ∙ c.in-Some.is)
    (sym c.is_current.ensures ∙ c.if-not-is_current.false)) marked.frames

pub returns-then-not-goes_to : goal.returns-then-not-goes_to
returns-then-not-goes_to c = λ site.
    let found = c.in_ok-found.ensures.found in
    let elsewhere = sym c.goes_to.ensures ∙ c.if-not-goes_to.true in
    breaks_rule c.args.arm rules.LoudArm c.malformed-then-not-goes_to.ensures
    (λ blocks d sound. let goes = (arm_ends found (sym c.may_throw.ensures ∙ c.in_default.is) d).0 in let bad : ⊥ = cc in bad)
    (c.requires.arm_is, arm_there found c.requires)

pub returns-in_err-mark_block-2 : goal.returns-in_err-mark_block-2
returns-in_err-mark_block-2 c = λ site.
    passes_on c.from_residual-in_err-mark_block-2.ensures.1 refl (c.in_err-mark_block-2.ensures site)
    (arm_unusable c.args.self.now.marks)

pub returns : goal.returns
returns c = λ site.
    let block = c.in_ok-found.ensures in
    let marked = c.in_ok-mark_block-2.ensures site in
    is_built _ (last_prefix block.found block.own
    (subst (HasSilentRows c.args.self.now.hir.now c.args.self.now.env.now) c.as_slice.ensures
    c.in_ok-check_silent_rows.ensures.ok) block.set marked.ok (sym c.may_throw.ensures ∙ c.in_default.is)
    (sym c.goes_to.ensures ∙ c.if-not-goes_to.false)) marked.frames
