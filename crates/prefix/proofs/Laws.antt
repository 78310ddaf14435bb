-- The laws of prefixes that the other crates cite.
pub mod Words
pub mod Overlap
