use Rattle.std.proofs.lemmas.Result.{on_ok_weaker}
use Rattle.rc_answer.proofs.FunctionLemmas.{function_sent}
use Rattle.rc_answer.proofs.function.send_function.Goals as goal

pub returns : goal.returns
returns g c =
    on_ok_weaker c.end_map.result
    (λ ended. function_sent _ _ _ _ _ _ _ _ _ _ c.in_ok-values.ensures c.in_ok-send_values.ensures
    c.in_ok-begin_map.ensures c.in_ok-key.ensures c.in_ok-send_header.ensures.sends c.in_ok-key-2.ensures ended
    c.in_ok-send_header.ensures.params c.in_ok-send_header.ensures.directives c.in_ok-send_header.ensures.span)
    c.end_map.ensures
