pub mod Goes
pub mod Taken
