pub mod Ascent
pub mod Exact
