use Rattle.std.proofs.Common.{◌≡◌, map, take}
use Rattle.rc_hir.specs.Model.{DeclarationEntry}
use Rattle.rc_why.proofs.reasons.unused.declarers.Given as goal

abbrev pub invariant-loop-entry : goal.invariant-loop-entry
invariant-loop-entry l =
    l.scopes ≡ map (λ (entry : DeclarationEntry). entry.value.scope) (take l.entry-index l.entries)
