pub mod Calls
pub mod Codes
pub mod Forms
pub mod Kinds
pub mod Tasks
