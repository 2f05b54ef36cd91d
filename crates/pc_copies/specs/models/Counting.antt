-- Copies that were put, and the cycles that were broken for them.
use Rattle.std.specs.Prelude.{◌≡◌, ◌⊎◌, ◌+◌, ℕ, List, length, drop, Option, Some, None}
use Rattle.std.specs.List.{AllByRecursion}
use Rattle.pc_word.specs.declared.item.Operand.{Operand}
use Rattle.pc_copies.specs.declared.moves.Move.{Move}
use Rattle.pc_copies.specs.Moves.{moves_of, copies_in}
use Rattle.pc_copies.specs.models.Sources.{source_in, IsWritten}
use Rattle.pc_copies.specs.models.Packing.{WritesOnce, IsRing}
use Rattle.pc_copies.specs.models.Following.{source_at, sources_left}

-- how many copies rows have with a first one
abbrev pub copies_with : List (List Move) → List Move → ℕ
copies_with rows first = copies_in rows + length first

-- a cycle was put whole, or broken with one copy more
abbrev pub Ring_counts : List Move → ℕ → ℕ → Type 0
Ring_counts ring before after = (after ≡ before + length ring) ⊎ (after ≡ before + length ring + 1)

-- moves were put of which the last ones are a cycle that was broken
pub record BrokenRing (path : List Move) (before after : ℕ) : Type 0 where
  pub at : ℕ
  pub ring : IsRing (drop at path)
  pub counted : after ≡ before + length path + 1

-- moves that follow one another were put, and at most one cycle was broken
abbrev pub Path_counts : List Move → ℕ → ℕ → Type 0
Path_counts path before after = (after ≡ before + length path) ⊎ BrokenRing path before after

-- so far, with what is left in the table: the cycles that were broken
pub record Counting (moves : List Move) (table : List (Option Operand)) (rows : List (List Move)) (first : List Move) : Type 0 where
  pub cycles : List (List Move)
  pub are : AllByRecursion IsRing cycles
  pub among : (x : ℕ) (from : Operand) → source_in (moves_of cycles) x ≡ Some from → source_in moves x ≡ Some from
  pub once : WritesOnce (moves_of cycles)
  pub gone : (x : ℕ) → IsWritten (source_in (moves_of cycles)) x → source_at table x ≡ None
  pub number : copies_with rows first + sources_left table ≡ length moves + length cycles
