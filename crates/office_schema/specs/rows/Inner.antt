-- Definitions that only contracts of private functions use.
pub mod Filled
pub mod Gathered
pub mod BuildsOffice
pub mod FilledPeople
pub mod Recorded
