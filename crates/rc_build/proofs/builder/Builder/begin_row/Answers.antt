use Rattle.std.proofs.Common.{◌≡◌, [], Err, ap, eq-eqb, ne_eqb, refl, subst, sym, true}
use Rattle.rc_hir.specs.declared.fault.Rule.TheVariants as rules
use Rattle.rc_runs.specs.Silent.{is_unset}
use Rattle.rc_build.specs.inside.ValueRows.{HasRows}
use Rattle.rc_build.specs.inside.ValueSteps.{value_at}
use Rattle.rc_build.specs.inside.Values.{any_end}
use Rattle.rc_build.proofs.BuildsLemmas.{breaks_rule, fails, is_built, passes_on}
use Rattle.rc_build.proofs.MarksLemmas.{referenced_once}
use Rattle.rc_build.proofs.RowBuiltLemmas.{row_can_mark, row_unset, row_unset_refused}
use Rattle.rc_build.proofs.ValueLemmas.{no_value_of, spells_unusable}
use Rattle.rc_build.proofs.builder.Builder.begin_row.Goals as goal

pub find_block-requires : goal.find_block-requires
find_block-requires c =
    referenced_once c.args.self.now.hir.now c.args.self.now.marks.used c.args.key [] c.requires.can.can.referenced

pub returns-in_err-rows : goal.returns-in_err-rows
returns-in_err-rows c = λ site around is_test.
    let block = c.in_ok-found.found.block.now in
    fails c.from_residual-in_err-rows.ensures.1 c.in_err-rows.ensures.facts
    (λ named rule e. no_value_of c.args.key block c.in_ok-found.ensures.found c.as_slice.ensures
    (c.in_err-rows.ensures.refused named rule (ap Err e)) c.args.self.now.marks.used)

pub returns-then-terminal-eq0 : goal.returns-then-terminal-eq0
returns-then-terminal-eq0 c = λ site around is_test.
    let block = c.in_ok-found.found.block.now in
    let found = c.in_ok-found.ensures.found in
    let terminal = c.args.terminal.now in
    let unset : is_unset terminal.id ≡ true = eq-eqb terminal.id.0 0 c.if-terminal-eq0.true in
    breaks_rule c.args.key rules.UnsetId c.malformed.ensures
    (row_unset_refused c.args.key terminal block found c.requires c.args.self.now.env.now around is_test unset)
    (row_unset c.args.key terminal block found c.requires unset)

pub mark_block-requires-clause-can : goal.mark_block-requires-clause-can
mark_block-requires-clause-can c =
    let block = c.in_ok-found.found.block.now in
    row_can_mark c.args.key c.args.terminal.now block c.in_ok-found.ensures.found c.requires c.in_ok-rows.rows
    (subst (λ z. HasRows c.args.self.now.hir.now z c.in_ok-rows.rows) c.as_slice.ensures c.in_ok-rows.ensures.ok)
    (ne_eqb c.args.terminal.now.id.0 0 c.if-terminal-eq0.false)

pub returns-in_err-mark_block : goal.returns-in_err-mark_block
returns-in_err-mark_block c = λ site around is_test.
    passes_on c.from_residual-in_err-mark_block.ensures.1 refl (c.in_err-mark_block.ensures site)
    (spells_unusable c.args.key c.args.self.now.marks (value_at around is_test) any_end)

pub returns : goal.returns
returns c = λ site around is_test.
    let marked = c.in_ok-mark_block.ensures site in
    is_built _ (record {
      block = c.in_ok-found.found.block.now;
      found = c.in_ok-found.ensures.found;
      own = c.in_ok-found.ensures.own;
      rows = subst (λ z. HasRows c.args.self.now.hir.now z c.in_ok-rows.rows) c.as_slice.ensures c.in_ok-rows.ensures.ok;
      set = ne_eqb c.args.terminal.now.id.0 0 c.if-terminal-eq0.false;
      marked = marked.ok;
    }) marked.frames
