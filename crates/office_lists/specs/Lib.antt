pub mod Entries
pub mod Exports
pub mod Inner
pub mod MoveDay
pub mod Records
pub mod Tables
pub mod Waves
pub mod Writing
