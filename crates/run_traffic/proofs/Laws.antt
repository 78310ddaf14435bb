-- The laws of what arrives and what leaves over a run.
pub mod Faults
pub mod Order
pub mod Refused
pub mod Stops
