pub mod Outcomes
pub mod Promises
pub mod Exact
