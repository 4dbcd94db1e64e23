pub mod Events
pub mod Place
pub mod HandedOut
