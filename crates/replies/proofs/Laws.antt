-- The laws of refusals that the other crates cite.
pub mod Refusals
pub mod Promise
pub mod Numbers
