pub mod Inner
pub mod Lines
pub mod Rehearsals
pub mod Runs
pub mod SingleLines
pub mod parse
pub mod render
