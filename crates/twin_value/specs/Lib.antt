-- What public contracts cite.
pub mod Codes
pub mod Named
pub mod Fits
pub mod Roles
pub mod Breaches
pub mod Twins
-- What proofs alone rest on: no public contract speaks of it.
pub mod Machinery
