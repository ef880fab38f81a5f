pub mod Edges
pub mod Slots
