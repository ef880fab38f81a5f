-- How far a text has been read. It ties functions to the refusals.
pub mod Reached
