-- What public contracts cite.
pub mod Entries
pub mod Histories
pub mod Replays
pub mod Links
pub mod Works
-- What private clauses and proofs rest on: no public contract speaks of it.
pub mod Machinery
