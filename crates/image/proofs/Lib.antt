pub mod Stores
pub mod Promises
pub mod Cases
pub mod Exact
pub mod Refusals
