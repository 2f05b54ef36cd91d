pub mod JumpingTreesKept
pub mod Queues
pub mod Unwound
pub mod WorkedLoopKept
