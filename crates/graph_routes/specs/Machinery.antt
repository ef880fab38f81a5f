-- What the private clauses speak of. No public contract names these words.
pub mod Rows
pub mod Groups
pub mod Found
pub mod Pages
