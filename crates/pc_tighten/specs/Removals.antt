-- A removal: a row that is a goto alone goes, and those that led to it are sent on.
use Rattle.std.specs.Prelude.{◌≡◌, ◌≢◌, ℕ, zero, suc, pred, nat_eq, List, [], ◌∷◌, map, if◌then◌else◌, Some, slice_get}
use Rattle.pc_machine.specs.declared.tree.Leaf.{Leaf}
use Rattle.pc_machine.specs.declared.tree.Leaf.TheVariants.{Goto, Stop, Trap}
use Rattle.pc_machine.specs.MachineCode.{CodeRow, RowCode}
use Rattle.pc_word.specs.Row.{Then, Either, At_leaf}

-- a row other than row 0 that is a goto alone to another row
pub record IsGotoAlone (rows : List CodeRow) (t u : ℕ) : Type 0 where
  pub at : slice_get rows t ≡ Some (At_leaf (Goto u))
  pub not_entry : t ≢ 0
  pub not_itself : u ≢ t

-- no row but row 0 is a goto alone to another row
abbrev pub HasNoGotoAlone : List CodeRow → Type 0
HasNoGotoAlone rows = (t u : ℕ) → IsGotoAlone rows t u → ⊥

-- the number of another row once the row t is out
abbrev pub shifted : ℕ → ℕ → ℕ
shifted zero row = pred row
shifted (suc t) zero = zero
shifted (suc t) (suc row) = suc (shifted t row)

-- the number of the row to which a leaf leads once t is out, and what led to t is sent on to u
abbrev pub sent : ℕ → ℕ → ℕ → ℕ
sent t u row = if nat_eq row t then shifted t u else shifted t row

-- the leaf then
abbrev pub sent_leaf : ℕ → ℕ → Leaf → Leaf
sent_leaf t u (Goto row) = Goto (sent t u row)
sent_leaf t u Stop = Stop
sent_leaf t u (Trap kind line) = Trap kind line

-- the row then
abbrev pub sent_row : ℕ → ℕ → CodeRow → CodeRow
sent_row t u (Then item rest) = Then item (sent_row t u rest)
sent_row t u (Either on on_yes on_no) = Either on (sent_row t u on_yes) (sent_row t u on_no)
sent_row t u (At_leaf leaf) = At_leaf (sent_leaf t u leaf)

-- the rows but t
abbrev pub without_row : ℕ → List CodeRow → List CodeRow
without_row t [] = []
without_row zero (row ∷ rows) = rows
without_row (suc t) (row ∷ rows) = row ∷ without_row t rows

-- the code once t is out
abbrev pub removed : RowCode → ℕ → ℕ → RowCode
removed code t u = record code { rows = map (sent_row t u) (without_row t code.rows) }
