pub mod GraphNodes
