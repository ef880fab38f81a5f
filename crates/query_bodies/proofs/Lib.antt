pub mod Breaching
pub mod OneOutcome
pub mod Soundly
pub mod Existence
pub mod GivenTokens
