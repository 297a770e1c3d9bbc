use Rattle.std.proofs.Common.{sym, ◌∙◌, true≢false}
use Rattle.rc_build.proofs.MayThrowLemmas.{empty_at, full_at, missing_at}
use Rattle.rc_build.proofs.handlers.is_empty_goto.Goals as goal

pub returns-then-is_empty : goal.returns-then-is_empty
returns-then-is_empty c = c.is_goto.ensures ∙ sym (empty_at c.args.hir.now c.args.key c.in-Some.block.now
    (sym c.in-Some.ensures) (c.is_empty.ensures.0 c.if-is_empty.true))

pub returns-else-is_empty : goal.returns-else-is_empty
returns-else-is_empty c = c.if-is_empty.false ∙ sym (full_at c.args.hir.now c.args.key c.in-Some.block.now
    (sym c.in-Some.ensures) (λ none. true≢false (sym (c.is_empty.ensures.1 none) ∙ c.if-is_empty.false)))

pub returns-in-None : goal.returns-in-None
returns-in-None c = sym (missing_at c.args.hir.now c.args.key (sym c.in-None.ensures))
