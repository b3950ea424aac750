pub mod Calls
pub mod Shifts
