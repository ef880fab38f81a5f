-- What public contracts cite.
pub mod Values
pub mod View
pub mod Members
pub mod Places
pub mod Pointers
pub mod Grammar
pub mod Printing
pub mod Sorting
pub mod Buckets
-- What proofs alone rest on: no public contract speaks of it.
pub mod Machinery
