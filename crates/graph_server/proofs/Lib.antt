pub mod Methods
pub mod Answering
pub mod Unique
pub mod Typed
pub mod Calling
pub mod Working
