-- The laws of two queues.
pub mod Packets
pub mod Refusals
pub mod Replies
pub mod Order
pub mod Turns
pub mod Waits
pub mod Sequences
