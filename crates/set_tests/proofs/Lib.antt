pub mod Arrivals
pub mod Soles
