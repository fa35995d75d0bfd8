pub mod arranged
pub mod hex_words
pub mod maps
pub mod options
pub mod repeats
pub mod watched_bytes
