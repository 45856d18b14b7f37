-- Listings, and what a room holds afterwards.
pub mod Listing
pub mod Passes
