pub mod Breached
pub mod Firsts
pub mod Judged
pub mod Outcomes
