use Rattle.std.proofs.Common.{◌++◌, append_assoc, sym, ap, ◌∙◌}
use Rattle.std.specs.List.{list_any}
use Rattle.std.specs.Option.{option_to_list}
use Rattle.rc_hir.specs.Successors.{case_blocks}
use Rattle.rc_runs.specs.Graph.{ends_unreachable}
use Rattle.rc_build.proofs.SuccessorsLemmas.{any_first, any_second, case_blocks_any}
use Rattle.rc_build.proofs.unreachable.any_ends.Goals as goal

pub returns-then-case_ends : goal.returns-then-case_ends
returns-then-case_ends c =
    let blocks = c.args.blocks in
    let ends = ends_unreachable c.args.hir.now in
    let cases = case_blocks blocks.cases.now in
    c.if-case_ends.true ∙ any_first ends cases (option_to_list blocks.first ++ option_to_list blocks.second)
    (sym (c.case_ends.ensures ∙ case_blocks_any ends blocks.cases.now) ∙ c.if-case_ends.true)
    ∙ sym (ap (list_any ends) (append_assoc cases (option_to_list blocks.first) (option_to_list blocks.second)))

pub returns-else-case_ends : goal.returns-else-case_ends
returns-else-case_ends c =
    let blocks = c.args.blocks in
    let ends = ends_unreachable c.args.hir.now in
    let cases = case_blocks blocks.cases.now in
    c.options_end.ensures ∙ any_second ends cases (option_to_list blocks.first ++ option_to_list blocks.second)
    (sym (c.case_ends.ensures ∙ case_blocks_any ends blocks.cases.now) ∙ c.if-case_ends.false)
    ∙ sym (ap (list_any ends) (append_assoc cases (option_to_list blocks.first) (option_to_list blocks.second)))
