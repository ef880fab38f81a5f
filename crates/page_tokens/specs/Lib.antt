-- What public contracts cite.
pub mod Tokens
