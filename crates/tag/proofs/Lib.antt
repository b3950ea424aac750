pub mod BlockMeanings
pub mod WeighedSum
pub mod Apart
pub mod FewKeys
pub mod Groups
pub mod Reading
pub mod Chunks
