-- Lemmas on the tests that show whether an office is lawful.
pub mod Differing
pub mod GradeTests
pub mod InvariantTests
