pub mod Ends
pub mod Exchanges
