-- Words of private clauses and of proofs: no public contract speaks of them.
pub mod Documents
