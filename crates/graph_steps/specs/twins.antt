-- What public contracts cite.
pub mod Held
-- What private clauses and proofs rest on: no public contract speaks of it.
pub mod Machinery
