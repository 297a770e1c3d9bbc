use Rattle.std.proofs.Common.{[], Err, refl, sym, ap, ◌∙◌, subst}
use Rattle.rc_build.specs.inside.ValueRows.{HasRows}
use Rattle.rc_build.specs.inside.Values.{any_end}
use Rattle.rc_build.proofs.BuildsLemmas.{boxed_built, fails, passes_on}
use Rattle.rc_build.proofs.MarksLemmas.{referenced_once}
use Rattle.rc_build.proofs.ThrowingLemmas.{block_throws, other_handler, throwing_built, throwing_can_mark}
use Rattle.rc_build.proofs.ValueLemmas.{no_value_of, spells_unusable}
use Rattle.rc_build.proofs.builder.Builder.build_throwing.Goals as goal

pub block_with_id-requires : goal.block_with_id-requires
block_with_id-requires c =
    referenced_once c.args.self.now.hir.now c.args.self.now.marks.used c.args.key [] c.requires.can.can.referenced

pub returns-in_err-rows : goal.returns-in_err-rows
returns-in_err-rows c = λ site context same.
    let block = c.in_ok-found.found.block.now in
    fails c.from_residual-in_err-rows.ensures.1 c.in_err-rows.ensures.facts
    (λ named rule e. no_value_of c.args.key block c.in_ok-found.ensures.found c.as_slice.ensures
    (c.in_err-rows.ensures.refused named rule (ap Err e)) c.args.self.now.marks.used)

pub returns-then-not-is_current : goal.returns-then-not-is_current
returns-then-not-is_current c = λ site context same.
    other_handler c.in_ok-found.ensures.found c.requires.here same (sym c.is_current.ensures ∙ c.if-not-is_current.true)
    c.malformed.ensures

pub mark_block-requires-clause-can : goal.mark_block-requires-clause-can
mark_block-requires-clause-can c =
    let block = c.in_ok-found.found.block.now in
    let found = c.in_ok-found.ensures.found in
    throwing_can_mark c.args.self.now.hir.now c.args.key block found c.args.throw (block_throws found c.requires.here)
    c.in_ok-rows.rows c.requires.can.can
    (subst (λ z. HasRows c.args.self.now.hir.now z c.in_ok-rows.rows) c.as_slice.ensures c.in_ok-rows.ensures.ok)
    c.in_ok-found.ensures.set

pub returns-in_err-mark_block : goal.returns-in_err-mark_block
returns-in_err-mark_block c = λ site context same.
    passes_on c.from_residual-in_err-mark_block.ensures.1 refl (c.in_err-mark_block.ensures site)
    (spells_unusable c.args.key c.args.self.now.marks context any_end)

pub returns : goal.returns
returns c = λ site context same.
    let block = c.in_ok-found.found.block.now in
    let found = c.in_ok-found.ensures.found in
    let marked = c.in_ok-mark_block.ensures site in
    boxed_built c.in_ok-new.ensures (throwing_built c.args.self.now.hir.now c.args.key block found c.args.throw
    (block_throws found c.requires.here) c.in_ok-found.ensures.own
    (subst (λ z. HasRows c.args.self.now.hir.now z c.in_ok-rows.rows) c.as_slice.ensures c.in_ok-rows.ensures.ok)
    c.in_ok-found.ensures.set (sym c.is_current.ensures ∙ c.if-not-is_current.false) c.requires.goes_on marked.ok)
    marked.frames
