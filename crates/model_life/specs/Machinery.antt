pub mod Codes
pub mod Keeping
pub mod Judging
