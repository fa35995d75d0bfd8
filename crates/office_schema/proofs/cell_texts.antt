-- Lemmas on the cells of a row.
pub mod TextCells
