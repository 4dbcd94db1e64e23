pub mod Heard
pub mod Laid
pub mod Exact
