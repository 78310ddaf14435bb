-- The laws of the day's definitions.
pub mod Numbers
pub mod Steps
pub mod Turns
pub mod Days
pub mod Alike
