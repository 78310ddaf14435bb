pub mod Rules
pub mod Promise
pub mod Numbers
