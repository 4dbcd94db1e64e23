pub mod Printed
pub mod Starred
