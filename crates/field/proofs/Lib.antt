pub mod UniqueInverses
pub mod Transport
pub mod Polynomials
