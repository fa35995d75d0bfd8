-- Lemmas on searches below a bound, and on the slow program that consists of them.
pub mod PlainSteps
pub mod Search
