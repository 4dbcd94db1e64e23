pub mod Turn
pub mod Exact
