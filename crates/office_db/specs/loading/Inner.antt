-- Definitions that only inner contracts, invariants and proofs use.
pub mod Declared
pub mod Indexes
pub mod Lists
