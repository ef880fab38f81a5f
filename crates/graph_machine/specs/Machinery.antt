pub mod Marks
pub mod Least
pub mod Listings
pub mod Brought
