pub mod Puts
pub mod Leading
pub mod OneText
