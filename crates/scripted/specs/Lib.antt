pub mod Words
pub mod Script
pub mod State
pub mod ScriptedMeans
pub mod Opens
