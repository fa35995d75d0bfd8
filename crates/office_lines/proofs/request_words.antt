-- Lemmas on the words of a request.
pub mod Codes
pub mod Names
pub mod Rounds
pub mod Parsing
