pub mod Means
pub mod Rules
pub mod Laws
pub mod Held
pub mod SlipMeans
pub mod Sounds
