pub mod Firmware
pub mod Promises
