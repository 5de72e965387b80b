pub mod SameSteps
pub mod Declared
pub mod Listed
pub mod MarksAppended
pub mod MarksNext
pub mod Marks
pub mod FilledRecords
