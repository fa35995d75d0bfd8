-- Lemmas about the response to a request.
pub mod Responses
