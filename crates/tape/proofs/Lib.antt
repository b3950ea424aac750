pub mod Standing
pub mod Readings
