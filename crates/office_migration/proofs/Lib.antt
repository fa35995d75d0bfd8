pub mod earlier
