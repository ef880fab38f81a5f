mod Starts
mod Frames
mod Appended
mod Batched
