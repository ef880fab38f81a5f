pub mod Joined
pub mod Tallies
pub mod Steps
pub mod Changes
pub mod Listed
pub mod Leaves
