pub mod JumpingTrees
pub mod Waiting
pub mod WorkedLoop
