pub mod Records
pub mod MemRecords
pub mod Handed
pub mod Turns
