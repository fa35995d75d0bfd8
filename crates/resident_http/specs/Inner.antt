-- Definitions that only inner contracts, invariants and proofs use.
pub mod Responses
