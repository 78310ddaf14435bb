pub mod Packets
pub mod Replies
pub mod Calls
pub mod Refusals
pub mod Channel
pub mod Order
pub mod Rows
