-- The steps of the checks and passes, by which their private functions are specified.
pub mod MetStatements
pub mod TargetSteps
pub mod OpenScopes
pub mod MembershipSteps
pub mod ContextVisits
pub mod LabelPruning
pub mod UnusedScopesSteps
