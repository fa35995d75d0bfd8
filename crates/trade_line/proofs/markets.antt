-- Lemmas on markets that a caller hands in, and on worked examples.
pub mod Drafts
pub mod Flat
pub mod Worked
