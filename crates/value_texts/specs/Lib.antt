-- What public contracts cite.
pub mod Calendar
pub mod Clock
pub mod Durations
-- What proofs alone rest on: no public contract speaks of it.
pub mod Machinery
