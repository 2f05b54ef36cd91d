use Rattle.std.proofs.Common.{take}
use Rattle.pc_syntax.specs.Erasure.{list_of}
use Rattle.pc_check.specs.models.Resolves.{ListResolves}
use Rattle.pc_check.specs.models.View.{names_of}
use Rattle.pc_check.proofs.statement.+check_statement.Given as goal

-- the statements so far have no fault, and the new ones are what they are resolved to
abbrev pub invariant-check_list-loop-item : goal.invariant-check_list-loop-item
invariant-check_list-loop-item l =
    ListResolves l.in_loop (list_of (take l.item-index l.from)) (names_of l.initial.scopes) (names_of l.scopes) (list_of l.items)
