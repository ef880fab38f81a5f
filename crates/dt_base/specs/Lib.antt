pub mod formers
pub mod Faults
pub mod Files
pub mod Pieces
pub mod Shelves
pub mod Texts
pub mod Existence
pub mod names
