pub mod Answers
pub mod Asks
pub mod Bodies
pub mod Faults
pub mod Fields
pub mod Inner
pub mod Routes
