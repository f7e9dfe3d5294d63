pub mod Amounts
pub mod Lots
pub mod Value
pub mod Words
