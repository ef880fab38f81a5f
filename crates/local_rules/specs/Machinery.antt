-- What the code that finds the first broken rule keeps: which rules a role can break, what entries are compared by,
-- the marks that the walk hands down, and the keys by the lengths of their texts. No contract of `first_breach` speaks of these words; the rules are defined beside
-- this folder.
pub mod Firsts
pub mod Repeated
pub mod Marks
pub mod Keys
