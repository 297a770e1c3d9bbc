use Rattle.std.proofs.Common.{[], ◌∷◌, take}
use Rattle.std.specs.List.{flat_map}
use Rattle.rc_hir.specs.Environment.{declaration_of}
use Rattle.rc_memo.specs.declared.event.MemoEvent.TheVariants as kinds
use Rattle.rc_memo.specs.inside.Recording.{Tells}
use Rattle.rc_memo.proofs.tree.add_each_within.Given as goal

abbrev pub invariant-loop-number : goal.invariant-loop-number
invariant-loop-number l = Tells l.reader.env.now
    (flat_map (λ number. kinds.Within (declaration_of l.reader.env.now number) l.scopes ∷ [])
    (take l.number-index l.number-items)) l.fn.recording l.recording
