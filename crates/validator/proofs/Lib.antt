pub mod Numbers
pub mod Counting
pub mod Fates
pub mod Rides
