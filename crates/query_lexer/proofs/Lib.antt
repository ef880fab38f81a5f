pub mod Cuts
pub mod FirstBytes
pub mod NameSpans
pub mod NumberSpans
pub mod TextSpans
pub mod MarkSpans
pub mod Unique
