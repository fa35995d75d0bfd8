-- Lemmas about input that is handled chunk by chunk.
pub mod Lines
pub mod Sessions
pub mod Steps
