pub mod ToldFronts
pub mod ToldEach
pub mod Rooms
pub mod Iterations
