-- Lemmas on the words and the order of a draw.
pub mod Orders
pub mod Words
