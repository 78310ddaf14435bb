-- The laws of what arrives and leaves.
pub mod Stops
pub mod Demand3
pub mod Choice
pub mod Receive
pub mod Send
pub mod Run
pub mod Demands
pub mod NextHop
pub mod SwitchedOn
