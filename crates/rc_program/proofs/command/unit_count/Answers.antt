-- The digits of a number from 1 up are read, and what is read without a plus or a zero in front has these digits.
use Rattle.std.proofs.Common.{◌≡◌, ◌≢◌, ◌==◌, ◌∙◌, inl, inr, ap, sym, true, get_or, length, arith}
use Rattle.std.proofs.lemmas.Bool.Decides.{nat_tests}
use Rattle.std.proofs.lemmas.Grind.{common_steps}
use Rattle.rc_program.proofs.NumberLemmas.{digits_of_read, not_digits, not_read, too_many}
use Rattle.rc_program.proofs.command.unit_count.Goals as goal
use Rattle.rc_program.proofs.command.unit_count.Goals.{then-is_empty-via-then-is_empty}
use Rattle.rc_program.proofs.command.unit_count.Goals.{then-is_empty-via-else-is_empty+then-bytes-eq43}
use Rattle.rc_program.proofs.command.unit_count.Goals.{then-is_empty-via-else-is_empty+else-bytes-eq43+then-bytes-eq48}

pub returns-then-is_empty : goal.returns-then-is_empty
returns-then-is_empty c = λ units some few same.
    let bytes = c.as_bytes-bytes.ensures.value in
    let first = ap (λ bs. get_or bs 0 0) bytes in
    not_digits c.args.word.now units
    (elim c.then-is_empty.branch [
      | then-is_empty-via-then-is_empty w ↦
          let test : (length c.as_bytes-bytes.result.now == 0) ≡ true = sym c.is_empty.ensures ∙ w.if-is_empty.true in
          inl (sym (ap length bytes) ∙ grind (arith, nat_tests, test))
      | then-is_empty-via-else-is_empty+then-bytes-eq43 w ↦ inr (inl (sym first ∙ w.if-bytes-eq43.true))
      | then-is_empty-via-else-is_empty+else-bytes-eq43+then-bytes-eq48 w ↦
          inr (inr (sym first ∙ w.if-bytes-eq48.true))
    ])
    same some (omega arith)

pub returns-in-Ok : goal.returns-in-Ok
returns-in-Ok c =
    let word = c.args.word.now in
    let no_plus : get_or word 0 0 ≢ 43 = grind (arith, common_steps) in
    let no_zero : get_or word 0 0 ≢ 48 = grind (arith, common_steps) in
    let digits = digits_of_read word c.in-Ok.units c.parse.result c.parse.ensures.value.0 c.in-Ok.is no_plus no_zero in
    (digits.0, digits.1, omega arith)

pub returns-in_default : goal.returns-in_default
returns-in_default c = λ units some few same.
    too_many c.args.word.now 2000 c.parse.result c.parse.ensures.value.0 (omega arith) c.in-Ok.units c.in-Ok.is
    (omega arith) units some few same

pub returns-in_default-2 : goal.returns-in_default-2
returns-in_default-2 c = λ units some few same.
    not_read c.args.word.now 2000 c.parse.result c.parse.ensures.value.0 (omega arith) _ c.in_default.is units some few
    same
