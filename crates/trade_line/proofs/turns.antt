-- Lemmas on the turns of a run.
pub mod Asking
pub mod Brought
pub mod Cursors
pub mod Loops
pub mod Marks
pub mod States
pub mod Turns
pub mod Whole
