-- Definitions that only inner contracts, invariants and proofs use.
pub mod Successors
pub mod RecordFaults
