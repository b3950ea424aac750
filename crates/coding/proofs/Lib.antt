pub mod Regrouping
pub mod Windows
pub mod RoundTrips
pub mod Decoding
pub mod OneNumber
pub mod Folding
