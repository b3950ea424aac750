pub mod Bodies
pub mod Tags
pub mod KeyBound
pub mod Tickets
