pub mod csv
pub mod move_days
pub mod padded_columns
