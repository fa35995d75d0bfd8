-- Definitions that only contracts of private functions and proofs use.
pub mod Declaring
pub mod Texts
