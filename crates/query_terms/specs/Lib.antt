pub mod Conditions
pub mod Queries
pub mod Codes
pub mod Machinery
pub mod tokens
