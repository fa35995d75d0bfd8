pub mod draws
