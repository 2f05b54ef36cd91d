-- How much of a walk is unfinished, and what its first items and tests print.
use Rattle.std.specs.Prelude.{ℕ, zero, suc, ℤ, if◌then◌else◌, List, [], ◌∷◌, ◌++◌}
use Rattle.pc_word.specs.Word.{holds}
use Rattle.pc_word.specs.State.{State}
use Rattle.pc_word.specs.Items.{operand_value}
use Rattle.pc_word.specs.Commit.{prints_of}
use Rattle.pc_window.specs.Tree.{Tree, Pending, Undecided, Exit, Stop_exit, Trap_exit, Front, Issued, Split, Unfinished}
use Rattle.pc_window.specs.Walk.{after_item}

-- how many items and tests the walk passes
abbrev pub walk_length : List ℕ → Tree → State → ℕ
walk_length lengths (Pending tag origin item rest) s = suc (walk_length lengths rest (after_item lengths item s))
walk_length lengths (Undecided tag origin on on_yes on_no) s =
    suc (if holds (operand_value s.names on) then walk_length lengths on_yes s else walk_length lengths on_no s)
walk_length lengths (Exit region tag homes) s = 0
walk_length lengths Stop_exit s = 0
walk_length lengths (Trap_exit kind line) s = 0

-- how many unfinished items and tests the walk of a window passes
abbrev pub behind_length : List ℕ → Front → State → ℕ
behind_length lengths (Issued tag origin item rest) s = behind_length lengths rest (after_item lengths item s)
behind_length lengths (Split tag origin on on_yes on_no) s =
    if holds (operand_value s.names on) then behind_length lengths on_yes s else behind_length lengths on_no s
behind_length lengths (Unfinished rest) s = walk_length lengths rest s

-- what the first n items and tests of the walk print
abbrev pub shown : List ℕ → Tree → State → ℕ → List ℤ
shown lengths (Pending tag origin item rest) s zero = []
shown lengths (Pending tag origin item rest) s (suc n) = prints_of s (item ∷ []) ++ shown lengths rest (after_item lengths item s) n
shown lengths (Undecided tag origin on on_yes on_no) s zero = []
shown lengths (Undecided tag origin on on_yes on_no) s (suc n) = if holds (operand_value s.names on) then shown lengths on_yes s n else shown lengths on_no s n
shown lengths (Exit region tag homes) s n = []
shown lengths Stop_exit s n = []
shown lengths (Trap_exit kind line) s n = []

-- what the front and the first n unfinished items and tests print
abbrev pub front_shown : List ℕ → Front → State → ℕ → List ℤ
front_shown lengths (Issued tag origin item rest) s n = prints_of s (item ∷ []) ++ front_shown lengths rest (after_item lengths item s) n
front_shown lengths (Split tag origin on on_yes on_no) s n =
    if holds (operand_value s.names on) then front_shown lengths on_yes s n else front_shown lengths on_no s n
front_shown lengths (Unfinished rest) s n = shown lengths rest s n
