-- The calls on a table over a run, refusal by refusal.
pub mod Refused
pub mod Enabling
