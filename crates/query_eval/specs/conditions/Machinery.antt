pub mod Plain
pub mod Sides
pub mod Starts
pub mod Within
