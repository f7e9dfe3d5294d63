pub mod Figures
pub mod Meaning
