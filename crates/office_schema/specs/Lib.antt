pub mod rows
pub mod cells
pub mod tables
