pub mod Replay
pub mod Day
pub mod Over
pub mod Days
pub mod Within
