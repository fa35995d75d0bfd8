pub mod Access
pub mod Adopted
pub mod Created
pub mod Files
pub mod Migrated
pub mod System
