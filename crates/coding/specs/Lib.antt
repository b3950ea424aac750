pub mod Bits
pub mod Encoding
pub mod LimitsOfModuli
