pub mod Buffered
pub mod Laid
pub mod Exact
