-- Early returns keep the runs of a body. Runs in the environment with early returns: `ValuesAlike`, `RunsElsewhere`;
-- what the environment has: `EarlyLabels`, `ProgressHolds`; each part of a tree: `KeptTree`; the whole: `KeepRuns`.
pub mod PlainShapes
pub mod PlainParts
pub mod HeldParts
pub mod ValuesAlike
pub mod RunsElsewhere
pub mod BreaksNamed
pub mod AddedRows
pub mod RulesMove
pub mod EarlyLabels
pub mod ProgressHolds
pub mod KeptParts
pub mod KeptTerminals
pub mod KeptSwitches
pub mod KeptLeaves
pub mod KeptScopes
pub mod KeptTree
pub mod KeepRuns
