pub mod Instruction
pub mod Interrupt
pub mod Exact
