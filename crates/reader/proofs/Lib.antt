pub mod Events
pub mod HandedOut
pub mod Exact
