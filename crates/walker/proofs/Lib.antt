pub mod Stretches
pub mod Taking
