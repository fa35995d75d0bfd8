-- Lemmas on the rows of replies.
pub mod Listings
pub mod Replies
