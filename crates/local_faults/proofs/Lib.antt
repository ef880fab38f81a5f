pub mod Rules
pub mod Steps
pub mod Marked
pub mod Walked
pub mod IdSets
pub mod Parts
pub mod Answered
pub mod Documents
mod Indexed
pub mod Sizes
mod Climbs
mod LevelSteps
mod Tabled
mod Judged
pub mod OneBreach
pub mod LeastBreaches
