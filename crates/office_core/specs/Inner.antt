-- Definitions that only the contracts of private functions use.
pub mod Formed
pub mod Passes
pub mod Tries
