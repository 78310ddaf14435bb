pub mod Replies
pub mod Arrives
pub mod Leaves
pub mod Run
pub mod NextHop
pub mod Demand3
pub mod Demands
