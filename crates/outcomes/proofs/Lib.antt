pub mod Made
pub mod Exact
