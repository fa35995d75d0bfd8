-- Lemmas about the bytes of a request.
pub mod Continuations
pub mod Fields
pub mod Keys
pub mod Requests
pub mod Targets
pub mod Windows
