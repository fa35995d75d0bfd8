-- Lemmas on the texts of answers.
pub mod Bytes
