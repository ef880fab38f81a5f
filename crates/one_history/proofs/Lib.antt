mod Places
pub mod Growth
mod Stories
mod Views
mod Queues
mod Once
mod Steps
mod Asked
mod Told
mod Closing
pub mod Pairs
