pub mod InSlots
