use Rattle.pc_syntax.specs.Erasure.{statement_of, optional_of, list_of}
use Rattle.pc_lower.proofs.Weights.{statement_weight, branch_weight, list_weight}
use Rattle.pc_lower.proofs.LoopMarks.{Marked}
use Rattle.pc_lower.proofs.marks.+mark_statement.Given as goal

-- the parts of the tree

abbrev pub decreases-mark_statement : goal.decreases-mark_statement
decreases-mark_statement l = statement_weight (statement_of l.statement.now)

abbrev pub decreases-mark_optional : goal.decreases-mark_optional
decreases-mark_optional l = branch_weight (optional_of l.statement.now)

abbrev pub decreases-mark_list : goal.decreases-mark_list
decreases-mark_list l = list_weight (list_of l.items.now)

-- the statements before this one were marked
abbrev pub invariant-mark_list-loop-item : goal.invariant-mark_list-loop-item
invariant-mark_list-loop-item l = Marked l.items l.outer l.initial.marks l.marks l.item-index
