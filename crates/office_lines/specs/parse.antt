pub mod Parsing
pub mod Understanding
pub mod Values
pub mod Requests
