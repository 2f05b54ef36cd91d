-- A law of the definitions. It is the contract of a function of laws.rt, which does nothing.
use Rattle.std.specs.Prelude.{◌≡◌, ℕ, List, [], ◌∷◌}
use Rattle.pc_word.specs.State.{State}
use Rattle.pc_word.specs.Row.{Row, Then, At_leaf, Commits, row_step}
use Rattle.pc_copies.specs.declared.moves.Move.{Move}
use Rattle.pc_copies.specs.Moves.{copy_of, after_copies}

-- the row that has these copies before a leaf
abbrev pub copy_row : {L : Type 0} → List Move → L → Row L
copy_row [] leaf = At_leaf leaf
copy_row (move ∷ moves) leaf = Then (copy_of move) (copy_row moves leaf)

-- one step of it is what is said of copies that run in one row
abbrev pub CopiesCommit : Type 0
CopiesCommit = (lengths : List ℕ) (row : List Move) (leaf : ℕ) (s : State) → row_step lengths (copy_row row leaf) s ≡ Commits [] (after_copies lengths row s) leaf
