-- The rule of the table of atomic words, and what each kind of step tells: they serve private clauses and proofs. Public
-- contracts speak of them only where they say what a pass is (`IsPassOf`).
pub mod Rules
pub mod Plays
