pub mod Columns
pub mod Exact
