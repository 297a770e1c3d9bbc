-- What a head declares, with its index.
use Rattle.std.specs.Prelude.{List}
use Rattle.rc_hir.specs.Model.{DeclarationEntry, Environment}
use Rattle.rc_merge.specs.LastUses.{LastUses}
use Rattle.rc_merge.specs.declared.declared.Declared.{Declared}
use Rattle.rc_merge.specs.inside.Declarations.{IsDeclared, current_of}

-- the declarations that a head has: those that are not gone by now
abbrev pub current : Declared → List DeclarationEntry
current declared = current_of declared.end declared.slots

-- the index is that of all the slots
abbrev pub IsIndexed : Environment → LastUses → Declared → Type 0
IsIndexed env uses declared = IsDeclared env uses declared.slots declared.places declared.names
