pub mod Words
pub mod UnderWay
pub mod Lots
pub mod Days
pub mod Accord
pub mod Agreement
