pub mod Residues
pub mod Moduli
pub mod Towers
pub mod ResidueLaws
pub mod Primes
pub mod InverseTables
pub mod ComputedTests
