pub mod Lots
pub mod Weighs
pub mod Bookings
pub mod Calls
pub mod Changes
pub mod Sound
pub mod Opening
pub mod Books
