pub mod Chains
pub mod SetRules
pub mod Breaches
-- What proofs alone rest on: no public contract speaks of it.
pub mod Machinery
