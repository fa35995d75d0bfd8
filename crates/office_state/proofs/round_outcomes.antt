-- Lemmas on what the exchange gives in a round.
pub mod Apart
pub mod Entries
pub mod Lists
pub mod Ranks
pub mod Results
pub mod Stays
pub mod WellTraded
