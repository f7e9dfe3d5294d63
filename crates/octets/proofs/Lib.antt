pub mod Widths
pub mod Fronts
