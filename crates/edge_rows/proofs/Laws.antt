-- The statement and its proof.
pub mod Rows
