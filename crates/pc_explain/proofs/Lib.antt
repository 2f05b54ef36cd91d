pub mod Searches
pub mod InTurn
pub mod Held
pub mod Writable
pub mod Chosen
pub mod Told
pub mod EachState
pub mod Origins
