-- What the walk over an interface keeps, and how the schemas that it names are measured. No public contract speaks of
-- these words; the first breach itself is defined in `local_rules`.
pub mod Walks
pub mod Named
pub mod Measured
