pub mod rows_read
mod cell_texts
pub mod statements
pub mod asking
pub mod table_rows
