pub mod Apart
pub mod Looking
pub mod Standing
pub mod Sound
