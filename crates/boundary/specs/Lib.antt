pub mod InSlots
pub mod Kept
