pub mod Judging
pub mod Reads
pub mod Finding
pub mod JudgingReplies
