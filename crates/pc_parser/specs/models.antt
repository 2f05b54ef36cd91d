pub mod Tests
pub mod Outcome
pub mod ExpressionParser
pub mod CallParser
pub mod StatementParser
pub mod UnitParser
pub mod Parsing
