-- What public contracts cite.
pub mod Objects
pub mod Operations
pub mod Patched
pub mod Codes
pub mod Words
pub mod Reading
-- What private clauses and proofs alone rest on.
pub mod Machinery
