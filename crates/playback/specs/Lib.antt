pub mod Inputs
pub mod Lines
pub mod Texts
