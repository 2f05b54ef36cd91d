pub mod TestClimbs
