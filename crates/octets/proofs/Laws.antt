-- The laws that the other crates cite.
pub mod Tests
pub mod Runs
pub mod Digits
pub mod Bits
