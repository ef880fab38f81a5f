-- Words of private clauses and of proofs: no public contract speaks of them.
pub mod Automaton
pub mod Remains
pub mod Steps
pub mod Ways
pub mod Leads
pub mod Spans
