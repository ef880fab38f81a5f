-- Texts that were printed in part. It ties functions to the printed form.
pub mod Parts
pub mod Pieces
