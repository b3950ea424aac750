pub mod Walking
pub mod Written
pub mod History
pub mod Sealing
