-- Lemmas about what a response depends on, and what it leaves unchanged.
pub mod Replies
pub mod Unavailable
