-- Lemmas about serving one connection.
pub mod AtDesk
pub mod Simulates
pub mod Streams
