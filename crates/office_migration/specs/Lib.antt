pub mod Causes
pub mod Inner
pub mod Names
pub mod Renewed
pub mod Versions
