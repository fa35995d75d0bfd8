-- Lemmas on the rows of each table: what the query over them means, and which records they determine.
pub mod QueryMeanings
pub mod Records
