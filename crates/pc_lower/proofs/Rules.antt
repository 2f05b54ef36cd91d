-- What the search is given of statements.
use Rattle.pc_syntax.proofs.ErasureLaws.{statement_forms}
use Rattle.pc_lower.proofs.Fills.{placed_first}
use Rattle.pc_lower.proofs.Spots.{lays_condition}
use Rattle.pc_lower.proofs.Assigned.{held_value}
use Rattle.pc_lower.proofs.Tested.{tested_none}
use Rattle.pc_lower.proofs.Constructs.{target_some, arms}

-- a statement: what was laid of its parts is what it is
pub ruleset statements = (statement_forms, target_some, placed_first, tested_none, arms)

-- a condition and its test
pub ruleset conditions = (held_value, lays_condition)
