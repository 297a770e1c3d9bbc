-- A function has one record at most.
use Rattle.std.proofs.Common.{◌≡◌, ◌∙◌, sym}
use Rattle.rc_hir.specs.Model.{Environment}
use Rattle.rc_memo.specs.Record.{IsRecordOf}
use Rattle.rc_memo.specs.declared.record.MemoRecord.{MemoRecord}
use Rattle.rc_tree.specs.Model.{ReactiveFunction}

pub one_record : (func : ReactiveFunction) (env : Environment) (first second : MemoRecord) → IsRecordOf func env first
    → IsRecordOf func env second → first ≡ second
one_record func env first second a b = λ i. record {
  nodes = (a.nodes ∙ sym b.nodes) i;
  scopes = (a.scopes ∙ sym b.scopes) i;
  definitions = (a.definitions ∙ sym b.definitions) i;
  escaping = (a.escaping ∙ sym b.escaping) i;
}
