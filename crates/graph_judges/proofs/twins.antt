pub mod Judged
pub mod Marked
pub mod Unfit
pub mod Sizes
pub mod Named
pub mod Kept
pub mod Judging
pub mod Patched
