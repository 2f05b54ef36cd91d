use Rattle.std.proofs.Common.{◌+◌, ◌*◌, drop}
use Rattle.pc_syntax.specs.Erasure.{statement_of, optional_of, list_of}
use Rattle.pc_lower.proofs.Weights.{statement_weight, branch_weight, list_weight}
use Rattle.pc_lower.proofs.Constructs.{ListLaid}
use Rattle.pc_lower.proofs.statement.+lower_statement.Given as goal

-- the parts of the tree; a helper stands above the trees that it is given

abbrev pub decreases-lower_statement : goal.decreases-lower_statement
decreases-lower_statement l = 2 * statement_weight (statement_of l.statement.now)

abbrev pub decreases-lower_optional : goal.decreases-lower_optional
decreases-lower_optional l = 2 * branch_weight (optional_of l.statement.now)

abbrev pub decreases-lower_list : goal.decreases-lower_list
decreases-lower_list l = 2 * list_weight (list_of l.items.now)

abbrev pub decreases-lower_branch : goal.decreases-lower_branch
decreases-lower_branch l = 2 * (statement_weight (statement_of l.yes.now) + branch_weight (optional_of l.no.now)) + 1

abbrev pub decreases-lower_while : goal.decreases-lower_while
decreases-lower_while l = 2 * statement_weight (statement_of l.body.now) + 1

abbrev pub decreases-lower_do : goal.decreases-lower_do
decreases-lower_do l = 2 * statement_weight (statement_of l.body.now) + 1

abbrev pub decreases-lower_round : goal.decreases-lower_round
decreases-lower_round l = 2 * (branch_weight (optional_of l.step.now) + statement_weight (statement_of l.body.now)) + 1

abbrev pub decreases-lower_turns : goal.decreases-lower_turns
decreases-lower_turns l = 2 * (branch_weight (optional_of l.step.now) + statement_weight (statement_of l.body.now)) + 2

abbrev pub decreases-lower_for : goal.decreases-lower_for
decreases-lower_for l = 2 * (list_weight (list_of l.first.now) + branch_weight (optional_of l.step.now) + statement_weight (statement_of l.body.now)) + 1

-- the statements from this one on were laid
abbrev pub invariant-lower_list-loop-at : goal.invariant-lower_list-loop-at
invariant-lower_list-loop-at l = ListLaid l.initial.draft l.draft l.spot (list_of (drop l.at l.items)) l.laid l.loops_end
