-- Lemmas on finite maps and their entries.
pub mod Entries
pub mod TextMaps
pub mod Trees
