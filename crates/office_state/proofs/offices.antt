-- Lemmas on offices: people, homes, rooms, moves, lists.
pub mod Apply
pub mod Details
pub mod Dropping
pub mod Empty
pub mod Grades
pub mod Homes
pub mod ChoiceLists
pub mod Leavers
pub mod Moves
pub mod People
pub mod Register
pub mod Tenants
pub mod Truths
