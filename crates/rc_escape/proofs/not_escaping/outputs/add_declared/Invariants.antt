use Rattle.std.proofs.Common.{◌≡◌, ◌++◌, drop, map}
use Rattle.rc_hir.specs.Environment.{declaration_of}
use Rattle.rc_hir.specs.Model.{DeclarationEntry}
use Rattle.rc_escape.proofs.not_escaping.outputs.add_declared.Given as goal

-- the names so far and those still to come are all that are added
abbrev pub invariant-loop-entry : goal.invariant-loop-entry
invariant-loop-entry l =
    let name = λ (entry : DeclarationEntry). declaration_of l.env entry.value.identifier in
    l.names ++ map name (drop l.entry-index l.entries) ≡ l.initial.names ++ map name l.entries
