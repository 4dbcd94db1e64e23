pub mod RunFile
pub mod RoundTrips
pub mod Cases
pub mod Refusals
