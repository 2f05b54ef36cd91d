-- Operands and items with registers in place of names, and the moves that pass values.
use Rattle.std.specs.Prelude.{ℕ, List, [], ◌∷◌, map, Option}
use Rattle.pc_word.specs.declared.item.Operand.{Operand}
use Rattle.pc_window.specs.declared.home.Home.{Home}
use Rattle.pc_window.specs.Unwinding.{or_zero}
use Rattle.pc_copies.specs.declared.moves.Move.{Move}
use Rattle.pc_word.specs.Naming.{map_name}

-- the register of a name, and 0 where it has none
abbrev pub register_of : (ℕ → Option ℕ) → ℕ → ℕ
register_of of name = or_zero (of name)

-- the moves that pass arguments to parameters, from registers of one state to those of another
abbrev pub argument_moves : (ℕ → ℕ) → (ℕ → ℕ) → List ℕ → List Operand → List Move
argument_moves of to (parameter ∷ parameters) (argument ∷ arguments) =
    record { dest = to parameter; from = map_name of argument } ∷ argument_moves of to parameters arguments
argument_moves of to _ _ = []

-- the moves that bring each variable into the register of its number
abbrev pub home_moves : (ℕ → ℕ) → List Home → List Move
home_moves of homes = map (λ home. record { dest = home.variable; from = map_name of home.value }) homes
