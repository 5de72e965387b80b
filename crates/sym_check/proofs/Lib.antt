pub mod Agreements
pub mod ListsAgree
pub mod DeclarationsAgree
pub mod StatesAgree
pub mod GroupAgrees
pub mod TestsAgree
pub mod ReportsSeen
pub mod ReportsAgree
pub mod ReportCallsAgree
pub mod ColumnsAgree
pub mod ScriptParts
pub mod ScriptsAgree
pub mod ScopesNamed
pub mod BlocksNamed
pub mod AcceptedPlans
mod Examples
mod ZippedLists
pub mod KeptNumbers
pub mod ValidSteps
mod TestAnswers
pub mod PlanLaws
pub mod Keys
pub mod GroupLaws
mod CheckedExamples
mod Fits
mod ScopeLaws
mod ScopePlaces
mod Done
mod SameKinds
mod OperandOutcomes
mod CallOutcomes
mod ExpressionsComplete
mod OperatorsFound
mod ValuesFound
mod ExpressionsFound
mod ExpressionFaults
mod ExpressionsAgree
mod BlocksComplete
mod BlocksFound
mod BlockFaults
mod BlocksAgree
mod Gathered
mod Called
mod WholeScripts
mod FewParts
mod Seen
mod PlannedScripts
pub mod CheckedShared
