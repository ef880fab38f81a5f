pub mod Gathering
pub mod Seen
pub mod Walking
pub mod Counted
