use Rattle.std.proofs.Common.{◌≡◌, ◌<◌, ◌++◌, take, drop, length, slice_index}
use Rattle.std.specs.List.{AllByRecursion}
use Rattle.pc_linear.specs.declared.term.Term.{Term}
use Rattle.pc_linear.specs.Form.{terms_in_variables}
use Rattle.pc_linear.proofs.term.set_variables.Given as goal

-- the terms so far have their new variables, and those from here on are still to be changed
abbrev pub invariant-loop-at : goal.invariant-loop-at
invariant-loop-at l =
    (take l.at l.terms ++ terms_in_variables (slice_index l.numbers) (drop l.at l.terms) ≡ terms_in_variables (slice_index l.numbers) l.initial.terms)
    × AllByRecursion (λ (term : Term). term.variable < length l.numbers) (drop l.at l.terms)
