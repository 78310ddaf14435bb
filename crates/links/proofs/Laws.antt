-- The laws of the table's definitions.
pub mod Search
pub mod Fresh
pub mod Counted
pub mod Kinds
pub mod Replies
pub mod Slots
pub mod Settings
pub mod Replaced
pub mod Sound
pub mod Run
pub mod Layouts
pub mod Retired
pub mod Demands
