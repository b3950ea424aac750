pub mod Calculations
pub mod WorkedExamples
