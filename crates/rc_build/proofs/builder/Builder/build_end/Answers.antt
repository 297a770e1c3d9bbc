use Rattle.std.proofs.Common.{[], Err, refl, ap}
use Rattle.rc_build.proofs.BuildsLemmas.{fails, is_built, passes_on}
use Rattle.rc_build.proofs.MarksLemmas.{referenced_once}
use Rattle.rc_build.proofs.ValueLemmas.{end_fact, spells_unended, spells_unusable}
use Rattle.rc_build.specs.inside.Values.{any_end}
use Rattle.rc_build.proofs.ValueBuiltLemmas.{end_built, end_can, no_terminal, no_throw_at, none_there}
use Rattle.rc_build.proofs.builder.Builder.build_end.Goals as goal

pub find_block-requires : goal.find_block-requires
find_block-requires c = referenced_once c.args.self.now.hir.now c.args.self.now.marks.used c.args.key []
    c.requires.can.can.referenced

pub check_end-requires : goal.check_end-requires
check_end-requires c = (
  no_terminal c.args.self.now.hir.now c.args.key c.in_ok-found.ensures.found c.requires.ends,
  no_throw_at c.args.self.now.hir.now c.args.key c.in_ok-found.ensures.found c.requires.stays,
)

pub returns-in_err-check_end : goal.returns-in_err-check_end
returns-in_err-check_end c = λ site context.
    let hir = c.args.self.now.hir.now in
    let key = c.args.key in
    let block = c.in_ok-found.found.block.now in
    let found = c.in_ok-found.ensures.found in
    fails c.from_residual-in_err-check_end.ensures.1
    (end_fact hir key block.terminal _ (record { block = block; found = found; holds = refl }) c.requires.can.referenced
    c.in_err-check_end.ensures.facts) (λ named rule e value end blocks d asked sound.
    spells_unended key block found (no_terminal hir key found c.requires.ends) (no_throw_at hir key found c.requires.stays)
    (c.in_err-check_end.ensures.refused named rule (ap Err e)) context value end blocks d)

pub end_value-requires : goal.end_value-requires
end_value-requires c = record {
  block = c.in_ok-found.found.block.now;
  found = c.in_ok-found.ensures.found;
  own = c.in_ok-found.ensures.own;
  is = refl;
  lists = refl;
  ends = c.in_ok-check_end.ensures.ok;
  referenced = c.requires.can.referenced;
}

pub returns-in_err-built : goal.returns-in_err-built
returns-in_err-built c = λ site context. fails c.from_residual-in_err-built.ensures.1 c.in_err-built.ensures.facts
    (λ named rule e. none_there c.args.self.now.marks.used context (c.in_err-built.ensures.refused named rule (ap Err e)))

pub mark_block-requires-clause-can : goal.mark_block-requires-clause-can
mark_block-requires-clause-can c =
    end_can c.args.self.now.hir.now c.args.key c.in_ok-found.ensures.found c.requires.can.can
    c.in_ok-built.ensures.ok

pub returns-in_err-mark_block : goal.returns-in_err-mark_block
returns-in_err-mark_block c = λ site context.
    passes_on c.from_residual-in_err-mark_block.ensures.1 refl (c.in_err-mark_block.ensures site)
    (spells_unusable c.args.key c.args.self.now.marks context any_end)

pub returns : goal.returns
returns c = λ site context.
    let marked = c.in_ok-mark_block.ensures site in
    is_built _ (end_built context c.in_ok-built.ensures.ok marked.ok) marked.frames
