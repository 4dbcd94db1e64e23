pub mod Wrote
pub mod Arrays
pub mod Exact
