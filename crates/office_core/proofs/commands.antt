-- Lemmas on commands: where the changes of each lead.
pub mod CarriedOut
pub mod Changes
pub mod Commands
pub mod Frames
pub mod Kept
pub mod Words
pub mod Lists
pub mod Register
pub mod Round
