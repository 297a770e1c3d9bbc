use Rattle.std.proofs.Common.{◌≡◌, [], Err, Some, refl, sym, ap, ◌∙◌, subst, length}
use Rattle.rc_hir.specs.declared.fault.Rule.TheVariants as rules
use Rattle.rc_runs.specs.ListContext.{is_current}
use Rattle.rc_build.specs.inside.CanBuild.{place_of}
use Rattle.rc_build.specs.inside.Marks.{CanMark, IsUnusable, Marked}
use Rattle.rc_build.specs.inside.Setting.{Setting}
use Rattle.rc_build.specs.inside.Task.{progress_of}
use Rattle.rc_build.specs.inside.ValueRows.{HasRows}
use Rattle.rc_build.specs.inside.Values.{any_end}
use Rattle.rc_build.proofs.BuildsLemmas.{breaks_rule, fails, is_built, passes_on, same_graph, any_site}
use Rattle.rc_build.proofs.LastThrowLemmas.{first_can_mark, last_can_mark, last_empty, last_empty_fact, last_missing}
use Rattle.rc_build.proofs.LastThrowLemmas.{last_referenced, last_throw_built, last_unusable, none_listed}
use Rattle.rc_build.proofs.MarksLemmas.{referenced_once}
use Rattle.rc_build.proofs.ThrowingLemmas.{other_handler}
use Rattle.rc_build.proofs.ValueLemmas.{no_value_of, spells_unusable}
use Rattle.rc_build.proofs.builder.Builder.build_last_throw.Goals as goal

pub block_with_id-requires : goal.block_with_id-requires
block_with_id-requires c =
    referenced_once c.args.self.now.hir.now c.args.self.now.marks.used c.args.key [] c.requires.can.can.referenced

pub returns-then-not-is_current : goal.returns-then-not-is_current
returns-then-not-is_current c = λ site context same.
    other_handler c.in_ok-found.ensures.found c.requires.here same (sym c.is_current.ensures ∙ c.if-not-is_current.true)
    c.malformed.ensures

pub block_with_id-requires-2 : goal.block_with_id-requires-2
block_with_id-requires-2 c = last_referenced c.requires c.in_ok-found.ensures.found

pub returns-in_err-behind : goal.returns-in_err-behind
returns-in_err-behind c = λ site context same.
    fails c.from_residual-in_err-behind.ensures.1 c.in_err-behind.ensures.facts (λ named rule e.
    last_missing c.requires c.in_ok-found.ensures.found c.args.self.now.env.now context c.args.self.now.marks.used
    c.in_err-behind.ensures.refused)

pub returns-in_default : goal.returns-in_default
returns-in_default c = λ site context same.
    let found = c.in_ok-found.ensures.found in
    let none = none_listed c.in_ok-found.found.block.now.instructions
    (ap (λ z. length z) (sym c.as_slice.ensures) ∙ c.in_default.ensures.cases) in
    breaks_rule c.args.key rules.EmptyValue c.malformed-in_default.ensures
    (last_empty c.requires found c.args.self.now.env.now context c.args.self.now.marks.used none)
    (last_empty_fact c.requires found none)

pub returns-in_err-built : goal.returns-in_err-built
returns-in_err-built c = λ site context same.
    let block = c.in_ok-found.found.block.now in
    fails c.from_residual-in_err-built.ensures.1 c.in_err-built.ensures.facts
    (λ named rule e. no_value_of c.args.key block c.in_ok-found.ensures.found (sym c.in-Some.ensures.cases.0 ∙ c.as_slice.ensures)
    (c.in_err-built.ensures.refused named rule (ap Err e)) c.args.self.now.marks.used)

pub mark_block-requires-clause-can : goal.mark_block-requires-clause-can
mark_block-requires-clause-can c = first_can_mark c.requires c.in_ok-found.ensures.found
    (sym c.as_slice.ensures ∙ c.in-Some.ensures.cases.0) c.in_ok-built.ensures.ok c.in_ok-found.ensures.set

pub returns-in_err-mark_block : goal.returns-in_err-mark_block
returns-in_err-mark_block c = λ site context same.
    passes_on c.from_residual-in_err-mark_block.ensures.1 refl (c.in_err-mark_block.ensures site)
    (spells_unusable c.args.key c.args.self.now.marks context any_end)

pub mark_block-requires-2-clause-can : goal.mark_block-requires-2-clause-can
mark_block-requires-2-clause-can c =
    let mid = c.mark_block.new.self in
    let marked = c.in_ok-mark_block.ensures (any_site c.args.key) in
    subst (λ (z : Setting). CanMark z.hir mid.marks c.args.throw.continuation c.in_ok-behind.behind.block.now)
    (sym marked.frames)
    (last_can_mark c.requires c.in_ok-found.ensures.found c.in_ok-behind.ensures.found refl marked.ok
    c.in_ok-behind.ensures.set)

pub mark_block-requires-2-clause-placed : goal.mark_block-requires-2-clause-placed
mark_block-requires-2-clause-placed c =
    let marked = c.in_ok-mark_block.ensures (any_site c.args.key) in
    subst (λ (z : Setting). place_of z.hir c.args.throw.continuation ≡ Some c.in_ok-behind.behind.place)
    (sym marked.frames) c.in_ok-behind.ensures.placed

pub returns-in_err-mark_block-2 : goal.returns-in_err-mark_block-2
returns-in_err-mark_block-2 c = λ site context same.
    let mid = c.mark_block.new.self in
    let marked = c.in_ok-mark_block.ensures site in
    passes_on c.from_residual-in_err-mark_block-2.ensures.1 (same_graph marked.frames)
    (c.in_err-mark_block-2.ensures site) (λ none.
    last_unusable c.requires c.in_ok-found.ensures.found c.args.self.now.env.now context c.args.self.now.marks.used
    mid.marks marked.ok.marking.used (subst (λ (z : Setting). IsUnusable z.hir [] c.args.throw.continuation mid.marks)
    marked.frames none))

pub returns : goal.returns
returns c = λ site context same.
    let mid = c.mark_block.new.self in
    let late = c.mark_block-2.new.self in
    let block = c.in_ok-found.ensures in
    let behind = c.in_ok-behind.ensures in
    let marked = c.in_ok-mark_block.ensures site in
    let second = c.in_ok-mark_block-2.ensures site in
    is_built _ (last_throw_built c.requires block.found behind.found refl marked.ok block.own block.set
    (ap (is_current c.args.throw.handler) same ∙ sym c.is_current.ensures ∙ c.if-not-is_current.false)
    behind.own behind.set (sym c.as_slice.ensures ∙ c.in-Some.ensures.cases.0) c.in_ok-built.ensures.ok
    (subst (λ (z : Setting). Marked z.hir c.args.throw.continuation c.in_ok-behind.behind.block.now.terminal
    (progress_of mid) (progress_of late)) marked.frames second.ok)) (second.frames ∙ marked.frames)
