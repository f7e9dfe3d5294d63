pub mod Standing
pub mod Accord
pub mod Agreement
pub mod Joint
