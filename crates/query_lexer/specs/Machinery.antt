-- What the reader of tokens takes at a time. It ties functions to the spellings.
pub mod Spans
