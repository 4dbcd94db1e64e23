pub mod Program
pub mod Exact
