pub mod Spelled
pub mod Texts
pub mod Numbers
pub mod Lines
