mod connections
mod own_replies
mod responses
pub mod served_connections
