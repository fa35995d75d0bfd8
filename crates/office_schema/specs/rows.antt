pub mod Inner
pub mod People
pub mod Reads
pub mod ReadsOffice
pub mod Rows
pub mod SameRows
pub mod Tables
