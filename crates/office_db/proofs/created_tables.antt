-- Lemmas on the tables of a new office.
pub mod Empty
