-- The laws of areas that the other crates cite.
pub mod Numbers
pub mod Same
pub mod Good
pub mod Normal
pub mod Chains
pub mod First
pub mod Ground
