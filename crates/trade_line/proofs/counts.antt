-- Lemmas on counts and sums: of people, asks and looks.
pub mod Asked
pub mod Count
pub mod Looks
pub mod ReadSums
