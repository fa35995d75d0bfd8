-- Lemmas on padded columns.
pub mod Cells
