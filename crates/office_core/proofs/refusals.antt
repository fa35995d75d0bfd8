-- Lemmas on refusals.
pub mod Checks
pub mod WithoutRecord
