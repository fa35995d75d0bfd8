pub mod Network
pub mod Serving
pub mod Texts
pub mod Unused
