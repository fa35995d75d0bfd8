-- Lemmas on tables that are equal up to the order of rows, and on tables that keep their form.
pub mod Alike
pub mod WellFormed
