-- Lemmas on imports.
pub mod Import
pub mod Indexed
pub mod ListChecks
pub mod Records
