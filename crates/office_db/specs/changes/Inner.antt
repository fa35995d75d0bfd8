-- Definitions that only inner contracts, invariants and proofs use.
pub mod Choosing
pub mod Grading
