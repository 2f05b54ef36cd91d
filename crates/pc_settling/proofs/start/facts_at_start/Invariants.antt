use Rattle.std.proofs.Common.{◌≡◌, ℕ, ◌∷◌}
use Rattle.std.specs.Prelude.{pos}
use Rattle.std.specs.List.{flat_map}
use Rattle.pc_word.specs.declared.item.Operand.TheVariants.{Lit}
use Rattle.pc_matching.specs.Facts.{facts_of}
use Rattle.pc_settling.specs.Remaining.{have_value_of}
use Rattle.pc_settling.specs.Begun.{numbers_below}
use Rattle.pc_settling.specs.Start.{registers_below}
use Rattle.pc_settling.proofs.start.facts_at_start.Given as goal

-- those of the variables so far
abbrev pub invariant-loop-variable : goal.invariant-loop-variable
invariant-loop-variable l =
    facts_of l.start ≡ flat_map (λ (variable : ℕ). have_value_of variable (Lit (pos 0) ∷ registers_below l.registers)) (numbers_below l.variable)
