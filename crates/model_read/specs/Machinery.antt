-- What the readers ask of a value. No public contract speaks of these words: `read_interfaces` asks nothing of its
-- document, and finds these shapes in one that breaks no local rule.
pub mod Shapes
pub mod Gains
