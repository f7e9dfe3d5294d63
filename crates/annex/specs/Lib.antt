pub mod Row
pub mod Schedule
pub mod Terms
