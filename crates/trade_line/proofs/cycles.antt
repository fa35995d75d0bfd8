-- Lemmas on cycles, and on the steps that remove them.
pub mod Chain
pub mod Cycles
pub mod Exchange
pub mod Removals
pub mod Steps
pub mod Unique
