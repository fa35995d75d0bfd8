-- Lemmas on reading and writing lists in CSV.
pub mod Fields
pub mod Headers
pub mod Reaching
pub mod ReadBack
pub mod Records
pub mod Sending
