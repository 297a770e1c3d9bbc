use Rattle.std.proofs.Common.{◌≡◌, [], ◌∷◌, ◌++◌, Some, ap, sym, ◌∙◌, subst}
use Rattle.std.proofs.lemmas.Result.{on_ok_weaker}
use Rattle.std.specs.Prelude.{OnOk}
use Rattle.rc_build.specs.inside.Loops.{PutsLoop, tree_of}
use Rattle.rc_build.specs.inside.Setting.{terminal_statement}
use Rattle.rc_build.proofs.LoopKindLemmas.{one_loop}
use Rattle.rc_build.proofs.loops.put_loop.Goals as goal

pub returns : goal.returns
returns c = λ t is. subst
    (λ z. OnOk c.put_terminal.result (PutsLoop c.args.out.now c.put_terminal.new.out z c.args.values c.args.body))
    (one_loop (sym c.loop_of.ensures ∙ c.unwrap-found.ensures) is) (on_ok_weaker c.put_terminal.result
    (λ put. (
      c.loop_tree-tree.result,
      subst (λ z. tree_of c.unwrap-found.result z c.args.body ≡ Some c.loop_tree-tree.result) c.into_inner.ensures
          c.loop_tree-tree.ensures,
      put ∙ ap (λ z. c.args.out.now ++ terminal_statement c.loop_tree-tree.result z ∷ []) c.label_at-label.ensures,
    ))
    c.put_terminal.ensures)
