-- What a table over a run answers for a table by value; and the view of an answer.
pub mod Lent
pub mod Views
