pub mod Glued
pub mod Passed
pub mod Counts
pub mod Suited
pub mod Declared
pub mod Puts
pub mod Patches
