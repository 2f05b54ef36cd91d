pub mod TestClimbs
pub mod Divided
pub mod Entering
pub mod Shapes
