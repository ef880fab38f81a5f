pub mod Uploads
pub mod Ends
pub mod Machinery
