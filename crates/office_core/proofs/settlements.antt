-- Lemmas on settling a round.
pub mod Moving
pub mod Recorded
pub mod Settle
pub mod Settling
