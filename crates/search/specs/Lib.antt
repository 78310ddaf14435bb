pub mod Search
pub mod Looked
