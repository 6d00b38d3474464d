pub mod Answer
mod Carrying
pub mod Folding
mod Marking
pub mod Sounds
pub mod Walks
pub mod Worked
mod Yielding
