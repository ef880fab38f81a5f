pub mod Rows
pub mod Keyed
pub mod Mapped
pub mod Kept
pub mod Steps
pub mod Listed
pub mod Nexts
