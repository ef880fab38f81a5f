pub mod fits
pub mod links
