-- Laws of lent buffers.
pub mod Grow
pub mod Put
