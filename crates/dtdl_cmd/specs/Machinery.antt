pub mod Gathering
pub mod ClientWords
