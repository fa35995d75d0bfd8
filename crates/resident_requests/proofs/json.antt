-- Lemmas about bodies in JSON.
pub mod Bodies
pub mod CodeLists
pub mod Floats
