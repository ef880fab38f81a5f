-- What public contracts cite.
pub mod Faultless
-- Words of private clauses and of proofs: no public contract speaks of them.
pub mod Machinery
