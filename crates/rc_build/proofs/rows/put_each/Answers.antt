use Rattle.std.proofs.Common.{◌≡◌, true, Some, get_or, ap, subst, eq-eqb, ne_eqb, arith, length, refl}
use Rattle.std.specs.Prelude.{nat_eq, slice_get}
use Rattle.std.specs.List.{list_any}
use Rattle.std.proofs.lemmas.List.Folds.{list_any_at}
use Rattle.rc_names.specs.Numbers.{InstructionId, to_id}
use Rattle.rc_build.proofs.RowsLemmas.{row_further, unset_refused}
use Rattle.rc_build.proofs.rows.put_each.Goals as goal

pub loop-number-preserved : goal.loop-number-preserved
loop-number-preserved c =
    let numbers = c.args.block.now.instructions in
    let i = c.loop-number.number-index in
    let d : InstructionId = to_id 0 in
    let found = subst (λ ns. slice_get c.args.hir.now.instructions (get_or ns i d).0
    ≡ Some c.in_ok-row.row.now) c.as_slice-number-items.ensures c.in_ok-row.ensures.ok in
    row_further c.args.hir.now numbers i d c.in_ok-row.row.now c.args.out.now c.loop-number.out c.push.new.self
    c.in_ok-statement.statement (omega (arith, ap length c.as_slice-number-items.ensures)) c.loop-number.invariant found
    (ne_eqb c.in_ok-row.row.now.id.0 0 c.if-row-eq0.false) c.in_ok-statement.ensures c.in_ok-push.ensures.ok

pub returns-then-row-eq0-clause-refused : goal.returns-then-row-eq0-clause-refused
returns-then-row-eq0-clause-refused c = λ named rule e h.
    let numbers = c.args.block.now.instructions in
    let i = c.loop-number.number-index in
    let d : InstructionId = to_id 0 in
    let found = subst (λ ns. slice_get c.args.hir.now.instructions (get_or ns i d).0
    ≡ Some c.in_ok-row.row.now) c.as_slice-number-items.ensures c.in_ok-row.ensures.ok in
    let among : list_any (λ (other : InstructionId). nat_eq (get_or numbers i d).0 other.0) numbers ≡ true =
    list_any_at (λ (other : InstructionId). nat_eq (get_or numbers i d).0 other.0) numbers i d
    (omega (arith, ap length c.as_slice-number-items.ensures))
    (eq-eqb (get_or numbers i d).0 (get_or numbers i d).0 refl) in
    unset_refused c.args.hir.now c.args.block.now (get_or numbers i d) c.in_ok-row.row.now among found
    (eq-eqb c.in_ok-row.row.now.id.0 0 c.if-row-eq0.true) h
