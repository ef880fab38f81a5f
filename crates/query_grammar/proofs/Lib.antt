pub mod Forward
pub mod Backward
pub mod Ends
pub mod Complete
pub mod Asks
pub mod Begins
