use Rattle.std.proofs.Common.{refl}
use Rattle.rc_tree_tests.proofs.UnnamedLemmas.{call_gives_way}
use Rattle.rc_tree_tests.proofs.tests.rewriter.answer.Goals as goal

pub returns : goal.returns
returns c = call_gives_way _ _ _ _ _ _ c.transform_stmt.ensures (record {
  enters = λ w x. (_, refl);
  visits = λ w id. (_, refl);
  leaves = λ w x. (_, refl);
  answers = λ w x. (_, refl);
})
