pub mod Within
pub mod Inverse
