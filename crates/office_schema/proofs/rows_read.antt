-- Lemmas on reading rows back into an office.
pub mod Filling
pub mod Gathering
pub mod Keys
pub mod Memory
pub mod Moving
pub mod FillingPeople
pub mod Rounds
pub mod RowOrder
