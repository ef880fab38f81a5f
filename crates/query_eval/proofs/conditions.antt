pub mod Leading
pub mod Places
pub mod Plainly
pub mod Starts
