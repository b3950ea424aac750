pub mod Reading
pub mod Turns
pub mod Wholes
pub mod Reports
