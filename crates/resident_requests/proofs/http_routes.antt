-- Lemmas about routes.
pub mod Found
pub mod Literal
