-- Lemmas on the day of moving: leavers, chains, waves.
pub mod Chains
pub mod Following
pub mod Leavers
pub mod MoveDayLists
