-- Reading one token at a time. It ties functions to the grammar.
pub mod Steps
pub mod Remains
pub mod Runs
