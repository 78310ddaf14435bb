-- The law that what is written is the listing.
pub mod Listing
