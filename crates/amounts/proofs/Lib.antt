pub mod Exact
pub mod Balance
pub mod Values
