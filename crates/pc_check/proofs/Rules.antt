-- What the functions over trees are proved with: what a tree stands for, and the first of faults in a row.
use Rattle.pc_syntax.proofs.ErasureLaws.{expression_forms, statement_forms}
use Rattle.pc_check.proofs.FaultLaws.{first_faults}

pub ruleset expressions = (expression_forms, first_faults)

pub ruleset statements = (statement_forms, first_faults)
