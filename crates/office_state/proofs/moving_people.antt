-- Lemmas on people who move, and on the office after a settlement.
pub mod Leavers
pub mod Relocations
pub mod Settled
pub mod Settling
