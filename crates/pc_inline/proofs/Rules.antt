-- What the functions over trees are proved with: what a tree stands for, the first of refusals in a row, and lists in a row.
use Rattle.pc_syntax.proofs.ErasureLaws.{expression_forms}
use Rattle.pc_syntax.proofs.UnitLaws.{unit_forms}
use Rattle.pc_inline.proofs.Firsts.{first_refusals}
use Rattle.pc_inline.proofs.Lists.{more_statements}

pub ruleset statements = (unit_forms, first_refusals)

pub ruleset copies = (unit_forms, expression_forms, more_statements)
