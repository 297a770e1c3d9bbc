-- Out of memory, and what the memoized names fail with, are faults of the pass.
use Rattle.std.proofs.Common.{◌≡◌, ◌⊎◌, inl, inr, subst, sym}
use Rattle.rc_hir.specs.Model.{Environment, Fault}
use Rattle.rc_hir.specs.declared.fault.Fault.TheVariants as faults
use Rattle.rc_tree.specs.Model.{ReactiveFunction}
use Rattle.rc_memo.specs.Record.{IsRecordOf}
use Rattle.rc_memo.specs.declared.record.MemoRecord.{MemoRecord}
use Rattle.rc_escape.specs.MemoSet.{IsNoScopeNode}
use Rattle.rc_escape.specs.WholeRecord.{IsEscapeFault}

module _ (env : Environment) (func : ReactiveFunction) (fault : Fault) where
  pub memory_fault : fault ≡ faults.NoMemory → IsEscapeFault env func fault
  memory_fault memory = subst (IsEscapeFault env func) (sym memory) tt

  pub escape_fault : (rec : MemoRecord) → IsRecordOf func env rec
      → (fault ≡ faults.NoMemory) ⊎ IsNoScopeNode rec fault → IsEscapeFault env func fault
  escape_fault rec recorded (inl memory) = memory_fault memory
  escape_fault rec recorded (inr is) = subst (IsEscapeFault env func) (sym is.names_it)
      record { rec = rec; recorded = recorded; lowest = is.lowest }
