-- The blocks to which the terminals of a graph refer, and as what.
use Rattle.std.specs.Prelude.{Bool, true, false, List, [], ◌∷◌, ◌++◌, Option, Some, None, if◌then◌else◌, slice_get}
use Rattle.std.specs.List.{flat_map}
use Rattle.std.specs.Option.{option_to_list}
use Rattle.rc_names.specs.Numbers.{BlockId}
use Rattle.rc_hir.specs.Successors.{case_blocks}
use Rattle.rc_runs.specs.LoopParts.{first_of}
use Rattle.rc_hir.specs.Model.{Terminal, HirFunction}
use Rattle.rc_hir.specs.declared.terminal.Terminal.TheVariants as terminals

-- what a block is to a terminal that refers to it: a `test`, `init` or `update`; the block of a `Sequence`, or a
-- continuation; an arm of a `Branch`; that of a case; the fallthrough of a value, of a scope, kept or pruned, or of
-- another terminal; or any other
pub data Role : Type 0 where
  Test : Role
  InValue : Role
  Arm : Role
  InCase : Role
  ValueFallthrough : Role
  ScopeFallthrough : Role
  Fallthrough : Role
  Other : Role

abbrev pub is_role : Role → Role → Bool
is_role Test Test = true
is_role InValue InValue = true
is_role Arm Arm = true
is_role InCase InCase = true
is_role ValueFallthrough ValueFallthrough = true
is_role ScopeFallthrough ScopeFallthrough = true
is_role Fallthrough Fallthrough = true
is_role _ _ = false

-- a field that is one block
abbrev pub one : Role → BlockId → Role × List BlockId
one role block = (role, block ∷ [])

-- the block fields of a terminal, and those of its cases
abbrev pub fields : Terminal → List (Role × List BlockId)
fields (terminals.If test consequent alternate fallthrough id span) =
    one Other consequent ∷ one Other alternate ∷ one Fallthrough fallthrough ∷ []
fields (terminals.Branch test consequent alternate id span) = one Arm consequent ∷ one Arm alternate ∷ []
fields (terminals.Logical operator test fallthrough id span) = one Test test ∷ one ValueFallthrough fallthrough ∷ []
fields (terminals.Ternary test fallthrough id span) = one Test test ∷ one ValueFallthrough fallthrough ∷ []
fields (terminals.Optional optional test fallthrough id span) = one Test test ∷ one ValueFallthrough fallthrough ∷ []
fields (terminals.Sequence block fallthrough id span) = one InValue block ∷ one ValueFallthrough fallthrough ∷ []
fields (terminals.Goto block variant id span) = one Other block ∷ []
fields (terminals.Switch test cases fallthrough id span) = (InCase, case_blocks cases) ∷ one Fallthrough fallthrough ∷ []
fields (terminals.DoWhile loop_block test fallthrough id span) =
    one Other loop_block ∷ one Test test ∷ one Fallthrough fallthrough ∷ []
fields (terminals.While test loop_block fallthrough id span) =
    one Test test ∷ one Other loop_block ∷ one Fallthrough fallthrough ∷ []
fields (terminals.For init test update loop_block fallthrough id span) =
    (Test, init ∷ test ∷ option_to_list update) ∷ one Other loop_block ∷ one Fallthrough fallthrough ∷ []
fields (terminals.ForOf init test loop_block fallthrough id span) =
    one Test init ∷ one Test test ∷ one Other loop_block ∷ one Fallthrough fallthrough ∷ []
fields (terminals.ForIn init loop_block fallthrough id span) =
    one Test init ∷ one Other loop_block ∷ one Fallthrough fallthrough ∷ []
fields (terminals.Label block fallthrough id span) = one Other block ∷ one Fallthrough fallthrough ∷ []
fields (terminals.MaybeThrow continuation handler id span) =
    one InValue continuation ∷ (Other, option_to_list handler) ∷ []
fields (terminals.Scope fallthrough block scope id span) = one Other block ∷ one ScopeFallthrough fallthrough ∷ []
fields (terminals.PrunedScope fallthrough block scope id span) = one Other block ∷ one ScopeFallthrough fallthrough ∷ []
fields (terminals.Try block handler_binding handler fallthrough id span) =
    one Other block ∷ one Other handler ∷ one Fallthrough fallthrough ∷ []
fields _ = []

-- the blocks to which a terminal refers in that role
abbrev pub blocks_as : Role → Terminal → List BlockId
blocks_as role terminal = flat_map (λ field. if is_role role field.0 then field.1 else []) (fields terminal)

-- the blocks to which a terminal refers
abbrev pub referenced_blocks : Terminal → List BlockId
referenced_blocks terminal = flat_map (λ field. field.1) (fields terminal)

-- the fallthrough of a terminal that has one
abbrev pub fallthroughs : Terminal → List BlockId
fallthroughs terminal =
    blocks_as Fallthrough terminal ++ (blocks_as ValueFallthrough terminal ++ blocks_as ScopeFallthrough terminal)

abbrev pub fallthrough_of : Terminal → Option BlockId
fallthrough_of terminal = slice_get (fallthroughs terminal) 0

-- the blocks to which a terminal refers as to values: a value begins there, or goes on there
abbrev pub value_references : Terminal → List BlockId
value_references terminal =
    blocks_as Test terminal ++ (blocks_as InValue terminal ++ (blocks_as Arm terminal
    ++ blocks_as ValueFallthrough terminal))

-- the blocks that a terminal frames: by a field `test`, `init`, `update` or `fallthrough`, or as a case's
-- block
abbrev pub framed_blocks : Terminal → List BlockId
framed_blocks terminal = blocks_as Test terminal ++ (fallthroughs terminal ++ blocks_as InCase terminal)

-- the block with which the turns of a loop begin, to which a continue goes
abbrev pub turn_block : Terminal → Option BlockId
turn_block (terminals.DoWhile loop_block test fallthrough id span) = Some test
turn_block (terminals.While test loop_block fallthrough id span) = Some test
turn_block (terminals.For init test update loop_block fallthrough id span) = Some (first_of update test)
turn_block (terminals.ForOf init test loop_block fallthrough id span) = Some init
turn_block (terminals.ForIn init loop_block fallthrough id span) = Some init
turn_block _ = None

-- the terminal is a `While`
abbrev pub is_while : Terminal → Bool
is_while (terminals.While test loop_block fallthrough id span) = true
is_while _ = false

-- the references of a graph: its entry, and each block field of each terminal
abbrev pub references : HirFunction → List BlockId
references hir = hir.body.entry ∷ flat_map (λ pair. referenced_blocks pair.1.terminal) hir.body.blocks
