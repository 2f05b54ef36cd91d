-- Rows that go away, several at once.
use Rattle.std.specs.Prelude.{◌≡◌, ◌≢◌, ◌⊎◌, ℕ, zero, suc, ◌<◌, ◌≤◌, Bool, true, false, if◌then◌else◌, List, [], ◌∷◌, map, Some, slice_get}
use Rattle.pc_machine.specs.declared.tree.Leaf.{Leaf}
use Rattle.pc_machine.specs.declared.tree.Leaf.TheVariants.{Goto, Stop, Trap}
use Rattle.pc_machine.specs.MachineCode.{CodeRow, RowCode}
use Rattle.pc_word.specs.Row.{Then, Either, At_leaf}
use Rattle.pc_tighten.specs.Compact.{Compact}
use Rattle.pc_tighten.specs.Tightened.{ByRemovals, EachIsReachable}

-- the rows that are not marked
abbrev pub unmarked_rows : (ℕ → Bool) → List CodeRow → List CodeRow
unmarked_rows marks [] = []
unmarked_rows marks (row ∷ rows) = if marks 0 then unmarked_rows (λ i. marks (suc i)) rows else row ∷ unmarked_rows (λ i. marks (suc i)) rows

-- how many numbers below this one are not marked
abbrev pub rank : (ℕ → Bool) → ℕ → ℕ
rank marks zero = 0
rank marks (suc i) = if marks 0 then rank (λ k. marks (suc k)) i else suc (rank (λ k. marks (suc k)) i)

-- a leaf that leads to the place of its row
abbrev pub placed_leaf : (ℕ → ℕ) → Leaf → Leaf
placed_leaf place (Goto row) = Goto (place row)
placed_leaf place Stop = Stop
placed_leaf place (Trap kind line) = Trap kind line

-- a row whose leaves lead to the places of rows
abbrev pub placed_row : (ℕ → ℕ) → CodeRow → CodeRow
placed_row place (Then item rest) = Then item (placed_row place rest)
placed_row place (Either on on_yes on_no) = Either on (placed_row place on_yes) (placed_row place on_no)
placed_row place (At_leaf leaf) = At_leaf (placed_leaf place leaf)

-- the code without the rows that are marked
abbrev pub without_marked : (ℕ → ℕ) → (ℕ → Bool) → RowCode → RowCode
without_marked place marks code = record code { rows = map (placed_row place) (unmarked_rows marks code.rows) }

-- rows go away, and where all rows are reachable a compact code stays compact
pub record Shrinks (code after : RowCode) : Type 0 where
  pub removals : ByRemovals code after
  pub compact : EachIsReachable code.rows → Compact code → Compact after

-- a marked row: a goto alone to another row, which stands further down or is not marked, and has its place
pub record IsMarked (rows : List CodeRow) (place : ℕ → ℕ) (marks : ℕ → Bool) (t : ℕ) : Type 0 where
  pub target : ℕ
  pub at : slice_get rows t ≡ Some (At_leaf (Goto target))
  pub not_entry : t ≢ 0
  pub not_itself : target ≢ t
  pub later : (t < target) ⊎ (marks target ≡ false)
  pub same_place : place t ≡ place target

-- marks of rows below a number, and the place of each row among those that are not marked
pub record AreMarks (rows : List CodeRow) (place : ℕ → ℕ) (marks : ℕ → Bool) (count : ℕ) : Type 0 where
  pub each : (t : ℕ) → marks t ≡ true → IsMarked rows place marks t
  pub within : (t : ℕ) → count ≤ t → marks t ≡ false
  pub ranks : (t : ℕ) → marks t ≡ false → place t ≡ rank marks t
