-- The laws of the questions.
pub mod Questions
