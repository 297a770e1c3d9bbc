use Rattle.std.proofs.Common.{◌∙◌, ◌++◌, ℕ, List, ap}
use Rattle.std.proofs.lemmas.Result.{on_ok_weaker}
use Rattle.std.specs.Prelude.{codes}
use Rattle.rc_lines.proofs.WrittenLines.{three_written}
use Rattle.rc_lines.specs.Counts.{count_line, fate_count}
use Rattle.rc_lines.specs.declared.counts.FateKind.TheVariants as kinds
use Rattle.rc_lines.proofs.counts.write_first_fates.Goals as goal

pub returns : goal.returns
returns c =
    let kept : ℕ → List ℕ = λ n. count_line (codes "kept") n in
    let escaping : ℕ → List ℕ = λ n. count_line (codes "not-escaping") n in
    let unused : ℕ → List ℕ = λ n. count_line (codes "unused") n in
    on_ok_weaker c.write_count-3.result (λ third.
    three_written c.args.page.now c.write_count.new.page c.write_count-2.new.page c.write_count-3.new.page
    (kept (fate_count kinds.Kept c.args.fates.now)) (escaping (fate_count kinds.NotEscaping c.args.fates.now))
    (unused (fate_count kinds.Unused c.args.fates.now))
    (c.in_ok-write_count.ensures ∙ ap (λ n. c.args.page.now ++ kept n) c.fate_count.ensures)
    (c.in_ok-write_count-2.ensures ∙ ap (λ n. c.write_count.new.page ++ escaping n) c.fate_count-2.ensures)
    (third ∙ ap (λ n. c.write_count-2.new.page ++ unused n) c.fate_count-3.ensures)) c.write_count-3.ensures
