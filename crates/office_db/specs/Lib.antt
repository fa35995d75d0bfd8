pub mod creation
pub mod changes
pub mod loading
