use Rattle.std.proofs.Common.{◌∙◌, ◌++◌, ap}
use Rattle.rc_lines.proofs.WrittenLines.{three_written}
use Rattle.rc_lines.specs.Counts.{first_fate_lines, last_fate_lines, size_lines}
use Rattle.rc_lines.proofs.counts.count_lines.Goals as goal

pub returns : goal.returns
returns c =
    let sizes = size_lines c.args.hir.now c.args.func.now in
    let first = first_fate_lines c.args.fates.now in
    let last = last_fate_lines c.args.fates.now in
    three_written c.new-page.result c.write_sizes.new.page c.write_first_fates.new.page c.write_last_fates.new.page
    sizes first last c.in_ok-write_sizes.ensures
    (c.in_ok-write_first_fates.ensures ∙ ap (λ l. c.write_sizes.new.page ++ first_fate_lines l) c.as_slice.ensures)
    (c.in_ok-write_last_fates.ensures ∙ ap (λ l. c.write_first_fates.new.page ++ last_fate_lines l) c.as_slice-2.ensures)
    ∙ ap (λ old. old ++ (sizes ++ (first ++ last))) c.new-page.ensures
