use Rattle.rc_answer.proofs.OneFlat.{all_give}
use Rattle.rc_answer.proofs.answer.answer_text.Goals as goal

pub returns-clause-func_again : goal.returns-clause-func_again
returns-clause-func_again c =
    let answer = c.in_ok-text.ensures in
    all_give c.args.func.now answer.flat answer.tables answer.func_again
