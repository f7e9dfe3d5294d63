pub mod Kinds
pub mod Ranges
pub mod Bodies
pub mod Words
