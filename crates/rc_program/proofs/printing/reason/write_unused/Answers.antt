use Rattle.std.proofs.Common.{◌∙◌, ◌++◌, ap}
use Rattle.std.proofs.lemmas.Result.{on_ok_weaker}
use Rattle.std.specs.Prelude.{codes, decimal}
use Rattle.rc_lines.proofs.WrittenLines.{three_written}
use Rattle.rc_program.specs.ReasonLines.{numbers_text}
use Rattle.rc_program.proofs.printing.reason.write_unused.Goals as goal

pub returns : goal.returns
returns c =
    on_ok_weaker c.write_number-2.result (λ third.
    three_written c.args.page.now c.write_list.new.page c.write_number.new.page c.write_number-2.new.page
    (codes "declared-by " ++ numbers_text c.args.declared_by.now)
    (codes " reassignments " ++ decimal c.args.reassignments) (codes " returns " ++ decimal c.args.returns)
    (c.in_ok-write_list.ensures
    ∙ ap (λ l. c.args.page.now ++ (codes "declared-by " ++ numbers_text l)) c.as_slice.ensures)
    c.in_ok-write_number.ensures third) c.write_number-2.ensures
