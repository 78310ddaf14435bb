-- The laws of a link's prefixes that the other crates cite.
pub mod Count
pub mod Listed
pub mod Sets
