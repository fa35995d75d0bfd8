pub mod Calls
pub mod Connections
pub mod DueResponses
pub mod Inner
pub mod OwnReply
pub mod Serving
pub mod server
