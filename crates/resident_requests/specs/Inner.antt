-- Definitions that only inner contracts, invariants and proofs use.
pub mod Found
pub mod RouteRows
