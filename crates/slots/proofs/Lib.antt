pub mod Tests
pub mod Lists
pub mod Entries
pub mod Padded
pub mod Filling
pub mod Looking
pub mod Exact
