-- Whether moves may be done at once, as a test.
use Rattle.std.specs.Prelude.{ℕ, Bool, true, not, ◌&&◌, nat_eq, nat_lt, List, [], ◌∷◌, is_none}
use Rattle.pc_word.specs.declared.item.Operand.{Operand}
use Rattle.pc_word.specs.declared.item.Operand.TheVariants.{Name, Lit}
use Rattle.pc_machine.specs.Registers.{most_registers}
use Rattle.pc_copies.specs.declared.moves.Move.{Move}
use Rattle.pc_copies.specs.models.Sources.{source_in}

abbrev pub is_named : ℕ → ℕ → Bool
is_named scratch register = nat_lt register most_registers && not (nat_eq register scratch)

abbrev pub is_source : ℕ → Operand → Bool
is_source scratch (Name register) = is_named scratch register
is_source scratch (Lit value) = true

-- each names registers but scratch, and none writes what one after it writes
abbrev pub are_given : ℕ → List Move → Bool
are_given scratch [] = true
are_given scratch (move ∷ moves) = (is_named scratch move.dest && is_source scratch move.from) && (is_none (source_in moves move.dest) && are_given scratch moves)
