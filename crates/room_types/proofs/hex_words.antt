-- Lemmas on the words of a draw in hexadecimal.
pub mod Digits
pub mod Words
