-- Lemmas on tables of earlier versions, and of other layouts.
pub mod Causes
pub mod Committed
pub mod First
pub mod Taken
pub mod Tests
