mod Numbered
mod Elements
mod Whole
