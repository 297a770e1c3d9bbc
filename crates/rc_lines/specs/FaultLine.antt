-- The line that is printed for a fault.
use Rattle.std.specs.Prelude.{List, ℕ, [], Option, Some, None, codes, decimal}
use Rattle.std.specs.Option.{option_map_or}
use Rattle.rc_hir.specs.Model.{Fault, Rule, TableName}
use Rattle.rc_hir.specs.declared.fault.Fault.TheVariants.{Malformed, Todo, EarlyReturnSet, ScopeCompleted}
use Rattle.rc_hir.specs.declared.fault.Fault.TheVariants.{Uninitialised, NoScopeNode, BadName, NoIds, NoMemory}
use Rattle.rc_hir.specs.declared.fault.Fault.TheVariants.{BadTarget, FunctionCycle}
use Rattle.rc_hir.specs.declared.fault.Rule.TheVariants as rules
use Rattle.rc_hir.specs.declared.fault.TableName.TheVariants as table_names
use Rattle.rc_lines.specs.LineText.{◌&◌, line}

-- the name of the rule that is broken
abbrev pub rule_name : Rule → List ℕ
rule_name rules.NoBlock = codes "NoBlock"
rule_name rules.KeyDiffers = codes "KeyDiffers"
rule_name rules.UnsetId = codes "UnsetId"
rule_name rules.Twice = codes "Twice"
rule_name rules.BreakTarget = codes "BreakTarget"
rule_name rules.ContinueTarget = codes "ContinueTarget"
rule_name rules.CaseLabel = codes "CaseLabel"
rule_name rules.ScopeBreak = codes "ScopeBreak"
rule_name rules.GotoTry = codes "GotoTry"
rule_name rules.LoopLive = codes "LoopLive"
rule_name rules.SwitchCase = codes "SwitchCase"
rule_name rules.EmptyValue = codes "EmptyValue"
rule_name rules.ValueEnd = codes "ValueEnd"
rule_name rules.NotValue = codes "NotValue"
rule_name rules.Tested = codes "Tested"
rule_name rules.LoudArm = codes "LoudArm"
rule_name rules.ShortArm = codes "ShortArm"
rule_name rules.Handler = codes "Handler"
rule_name rules.ThrowInTry = codes "ThrowInTry"
rule_name rules.Dead = codes "Dead"
rule_name rules.ScopeTwice = codes "ScopeTwice"
rule_name rules.FallsElsewhere = codes "FallsElsewhere"
rule_name rules.OtherTree = codes "OtherTree"

-- the name of a table
abbrev pub table_name : TableName → List ℕ
table_name table_names.Identifiers = codes "Identifiers"
table_name table_names.Declarations = codes "Declarations"
table_name table_names.Types = codes "Types"
table_name table_names.Scopes = codes "Scopes"
table_name table_names.Functions = codes "Functions"
table_name table_names.Instructions = codes "Instructions"
table_name table_names.Shapes = codes "Shapes"

-- a fault's number and name; being out of memory, and the faults that no graph gets, have no line
abbrev pub fault_name : Fault → Option (List ℕ)
fault_name (Malformed block rule) = Some (codes "1 Malformed")
fault_name (Todo block) = Some (codes "2 Todo")
fault_name (EarlyReturnSet scope) = Some (codes "3 EarlyReturnSet")
fault_name (ScopeCompleted id scope) = Some (codes "4 ScopeCompleted")
fault_name (Uninitialised declaration) = Some (codes "5 Uninitialised")
fault_name (NoScopeNode scope) = Some (codes "6 NoScopeNode")
fault_name (BadName table index) = Some (codes "7 BadName")
fault_name NoIds = Some (codes "8 NoIds")
fault_name NoMemory = None
fault_name (BadTarget target) = None
fault_name (FunctionCycle function) = None

-- the place at which the fault was found
abbrev pub place_of_fault : Fault → List ℕ
place_of_fault (Malformed block rule) = codes " block " & decimal block.0 & codes " rule " & rule_name rule
place_of_fault (Todo block) = codes " block " & decimal block.0
place_of_fault (EarlyReturnSet scope) = codes " scope " & decimal scope.0
place_of_fault (ScopeCompleted id scope) = codes " id " & decimal id.0 & codes " scope " & decimal scope.0
place_of_fault (Uninitialised declaration) = codes " declaration " & decimal declaration.0
place_of_fault (NoScopeNode scope) = codes " scope " & decimal scope.0
place_of_fault (BadName table index) = codes " " & table_name table & codes " " & decimal index
place_of_fault _ = []

-- the line of a fault; empty if it has none
abbrev pub fault_line : Fault → List ℕ
fault_line fault = option_map_or (λ name. line 0 (codes "fault " & name & place_of_fault fault)) (fault_name fault) []
