pub mod Answers
pub mod Legal
pub mod Refusals
pub mod Sessions
pub mod Turns
pub mod Uniqueness
