-- Lemmas on lists that repeat a room.
pub mod Repeats
