-- The laws of the run.
pub mod Finds
pub mod Overlaps
pub mod Clears
