pub mod Runs
pub mod Segments
pub mod Spelling
pub mod Reading
pub mod Cuts
pub mod Past
pub mod Exact
