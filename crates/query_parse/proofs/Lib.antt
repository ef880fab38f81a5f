pub mod Spelled
pub mod Says
pub mod Leasts
pub mod Unique
pub mod OneAnswer
pub mod Refusals
pub mod Readings
pub mod Existence
