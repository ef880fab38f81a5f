pub mod Rows
pub mod Paging
