pub mod Product
pub mod Folds
pub mod Polynomials
pub mod BitReversal
pub mod PolynomialLaws
pub mod Lists
pub mod Reversals
