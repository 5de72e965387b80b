pub mod AddedLiterals
mod Admits
pub mod Agreeing
pub mod AmongOutcomes
pub mod Changed
pub mod Checks
pub mod Composed
pub mod Decided
mod Examples
pub mod Fitted
pub mod Followed
pub mod FollowedStates
pub mod FollowingConstants
pub mod FollowingFits
pub mod FollowingForms
pub mod FollowingLeft
pub mod FollowingNarrowed
pub mod FollowingSteps
pub mod FollowingTaken
pub mod FollowingWhole
pub mod Given
pub mod JoiningConstraints
mod JoiningCounts
pub mod JoiningEqual
pub mod JoiningFits
pub mod JoiningGives
pub mod JoiningJoined
pub mod JoiningTaken
pub mod JoiningUnited
pub mod Lawful
pub mod Led
pub mod Lists
pub mod ListsOut
pub mod Narrowed
pub mod NarrowedEnds
pub mod NarrowedFits
pub mod OnlyOutcomes
pub mod PairCounts
pub mod PairsWithin
pub mod PossibleStates
pub mod Possibly
pub mod Pulled
pub mod SettlingLists
pub mod SettlingStands
pub mod WholePaths
mod Written
