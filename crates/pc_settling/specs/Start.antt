-- The facts that hold before anything is done.
use Rattle.std.specs.Prelude.{ℕ, pos, List, ◌∷◌, ◌++◌, map}
use Rattle.std.specs.List.{flat_map}
use Rattle.pc_word.specs.declared.item.Operand.{Operand}
use Rattle.pc_word.specs.declared.item.Operand.TheVariants.{Name, Lit}
use Rattle.pc_window.specs.Opening.{first_new}
use Rattle.pc_certified.specs.Facts.{Fact}
use Rattle.pc_matching.specs.FactsAfter.{that}
use Rattle.pc_settling.specs.Remaining.{have_value_of}
use Rattle.pc_settling.specs.Begun.{numbers_below}

-- so many registers, from 0 on
abbrev pub registers_below : ℕ → List Operand
registers_below registers = map (λ register. Name register) (numbers_below registers)

-- the facts that hold where all of so many registers, and all variables, are 0: each variable has the value of 0 and of each register,
-- and each register that of 0
abbrev pub facts_at_start : (registers : ℕ) → List Fact
facts_at_start registers =
    flat_map (λ variable. have_value_of variable (Lit (pos 0) ∷ registers_below registers)) (numbers_below first_new)
    ++ map (λ source. that source (Lit (pos 0))) (registers_below registers)
