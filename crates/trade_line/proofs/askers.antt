-- Lemmas on the line of askers, as a list and linked by number.
pub mod Lines
pub mod Links
pub mod WholeRing
