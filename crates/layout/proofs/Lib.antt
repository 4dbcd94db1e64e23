pub mod Fields
pub mod Image
pub mod Sized
pub mod Fine
pub mod Cases
pub mod Exact
