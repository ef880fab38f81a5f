-- What public contracts cite.
pub mod Rows
-- What private clauses and proofs rest on: no public contract speaks of it.
pub mod Machinery
