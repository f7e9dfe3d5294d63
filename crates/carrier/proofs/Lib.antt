pub mod Fits
pub mod Keep
