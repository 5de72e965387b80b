pub mod CausesFound
pub mod Consequences
mod EndExamples
pub mod EndsFound
mod HeadlineExamples
pub mod JoinedEnds
pub mod JoinsReported
mod LogExamples
mod MadeExamples
pub mod MadeLines
pub mod Observed
pub mod OnePass
pub mod OtherWork
mod PartExamples
pub mod PartsReported
pub mod PassKeys
mod PremiseExamples
pub mod Preparing
pub mod ProgramsFound
pub mod ReducedEnds
