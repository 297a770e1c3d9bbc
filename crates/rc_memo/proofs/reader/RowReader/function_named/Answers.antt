use Rattle.std.proofs.Common.{refl}
use Rattle.rc_memo.specs.RowEvents.{places_read, recorded_operands}
use Rattle.rc_memo.specs.Table.{recorded_of}
use Rattle.rc_memo.proofs.reader.RowReader.function_named.Goals as goal

pub returns-in-FunctionExpression : goal.returns-in-FunctionExpression
unfolding recorded_operands places_read recorded_of
returns-in-FunctionExpression c = rw c.in-FunctionExpression.is refl

pub returns-in-ObjectMethod : goal.returns-in-ObjectMethod
unfolding recorded_operands places_read recorded_of
returns-in-ObjectMethod c = rw c.in-ObjectMethod.is refl
