pub mod Members
pub mod Led
