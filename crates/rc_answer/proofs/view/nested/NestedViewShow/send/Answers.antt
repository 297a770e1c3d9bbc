use Rattle.rc_flat.specs.ShownFlat.{nested_value_data}
use Rattle.rc_answer.proofs.view.nested.NestedViewShow.send.Goals as goal

pub returns-in-ConditionalExpression-clause-sends : goal.returns-in-ConditionalExpression-clause-sends
unfolding nested_value_data
returns-in-ConditionalExpression-clause-sends g c =
    rw (← c.self.view_is, c.in-ConditionalExpression.is)
    (rw (
      c.with-in-ConditionalExpression-3.ensures,
      c.tagged-in-ConditionalExpression.ensures,
      c.with-in-ConditionalExpression-2.ensures,
      c.with-in-ConditionalExpression.ensures,
    ) at c.send-in-ConditionalExpression.ensures.sends)

pub returns-in-SequenceExpression-clause-sends : goal.returns-in-SequenceExpression-clause-sends
unfolding nested_value_data
returns-in-SequenceExpression-clause-sends g c =
    rw (← c.self.view_is, c.in-SequenceExpression.is)
    (rw (
      c.with-in-SequenceExpression-3.ensures,
      c.tagged-in-SequenceExpression.ensures,
      c.with-in-SequenceExpression-2.ensures,
      c.with-in-SequenceExpression.ensures,
    ) at c.send-in-SequenceExpression.ensures.sends)

pub returns-in-OptionalExpression-clause-sends : goal.returns-in-OptionalExpression-clause-sends
unfolding nested_value_data
returns-in-OptionalExpression-clause-sends g c =
    rw (← c.self.view_is, c.in-OptionalExpression.is)
    (rw (
      c.with-in-OptionalExpression-2.ensures,
      c.with-in-OptionalExpression.ensures,
      c.tagged-in-OptionalExpression.ensures,
    ) at c.send-in-OptionalExpression.ensures.sends)
