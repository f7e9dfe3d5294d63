pub mod Tables
pub mod Ranges
pub mod Cover
pub mod Sound
