pub mod Remainders
pub mod Folds
pub mod Sums
pub mod Building
pub mod FromFn
