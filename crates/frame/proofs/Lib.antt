pub mod Trailers
pub mod Once
pub mod Written
