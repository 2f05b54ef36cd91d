pub mod Headers
pub mod HaltCause
pub mod InRange
