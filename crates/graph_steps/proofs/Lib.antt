pub mod Empty
pub mod Marked
