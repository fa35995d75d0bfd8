-- Lemmas on the bytes that a monitored device reads and writes.
pub mod Streams
