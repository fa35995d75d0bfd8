-- Lemmas on desks over the files of the system.
pub mod Opened
