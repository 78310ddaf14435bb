-- What the proofs of this crate have in common.
pub mod Front
pub mod Walk
pub mod Good
pub mod Moved
pub mod Refused
pub mod Shown
pub mod Laid
pub mod Added
pub mod Taken
