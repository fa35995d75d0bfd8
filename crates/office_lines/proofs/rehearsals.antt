-- Lemmas about rehearsals and about runs of lines.
pub mod Rehearsals
pub mod Runs
pub mod Simulations
