mod created_tables
pub mod alike_tables
pub mod changed_rows
pub mod found_offices
pub mod loaded
