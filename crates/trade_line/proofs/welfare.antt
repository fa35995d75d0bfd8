-- Lemmas on how good an outcome is for people: ranks, other lists, groups, the strict core.
pub mod Core
pub mod Given
pub mod Groups
pub mod Manipulation
pub mod OtherLists
pub mod Ranks
pub mod Welfare
