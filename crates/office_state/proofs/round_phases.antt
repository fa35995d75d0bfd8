-- Lemmas on the phases of a round.
pub mod Over
pub mod Untouched
