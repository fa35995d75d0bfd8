pub mod commands
pub mod imports
pub mod refusals
pub mod reply_rows
pub mod settlements
