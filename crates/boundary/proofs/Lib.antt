pub mod Laid
pub mod Kept
pub mod Exact
