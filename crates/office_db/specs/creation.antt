pub mod Created
pub mod Names
