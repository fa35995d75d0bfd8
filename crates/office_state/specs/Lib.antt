pub mod Change
pub mod Empty
pub mod Inner
pub mod Office
pub mod Puts
pub mod Round
pub mod Soundness
