pub mod Words
pub mod Things
