-- What public contracts cite.
pub mod Number
pub mod Halves
pub mod Literal
pub mod Decimals
pub mod Printing
pub mod Comparing
-- What proofs alone rest on: no public contract speaks of it.
pub mod Machinery
