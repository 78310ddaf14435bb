pub mod Area
pub mod Ground
