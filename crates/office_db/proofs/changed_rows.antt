-- Lemmas on the rows of an office after each change.
pub mod Calls
pub mod Carried
pub mod Changes
pub mod Entries
pub mod TableEntries
