pub mod Indexes
pub mod Sound
pub mod Views
pub mod Walks
pub mod Gathering
pub mod Outer
pub mod Dollar
