use Rattle.std.specs.Prelude.{Option}
pub mod Header
pub mod Reading
pub mod Writing
pub mod RoundTrips
pub mod Exact
pub mod Cases
pub mod Refusals
