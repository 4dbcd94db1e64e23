pub mod Spelled
pub mod Texts
pub mod Numbers
pub mod Lines
pub mod Exact
pub mod Examples
