pub mod HaltCause
