-- Lemmas on ascending arrangements.
pub mod Arrangements
