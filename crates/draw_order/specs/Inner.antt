-- Definitions that only invariants, proofs and the contracts of private functions use.
pub mod SortKeys
