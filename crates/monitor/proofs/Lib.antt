pub mod Front
pub mod Exact
