-- Lemmas on options.
pub mod Options
