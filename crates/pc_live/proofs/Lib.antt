pub mod Bits
pub mod Dead
pub mod Example
pub mod Lives
pub mod Logic
pub mod Rounds
