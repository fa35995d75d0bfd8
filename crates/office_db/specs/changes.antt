pub mod StoresChanges
pub mod Inner
