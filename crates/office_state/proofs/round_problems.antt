-- Lemmas on the problem of a round, and on its numbers.
pub mod Names
pub mod People
pub mod Problem
pub mod Puts
pub mod Rooms
