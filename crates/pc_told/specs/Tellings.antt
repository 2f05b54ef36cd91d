-- What is told of a row: of which iteration each item and test is and where in the flow graph it comes from, how far each leaf goes on, and what
-- waits there.
use Rattle.std.specs.Prelude.{◌≡◌, ℕ, ◌-◌, if◌then◌else◌, List, [], ◌∷◌, ◌++◌, map, Option, Some, None}
use Rattle.pc_word.specs.declared.item.Item.{Item}
use Rattle.pc_word.specs.declared.item.Operand.{Operand}
use Rattle.pc_word.specs.Row.{Row, Then, Either, At_leaf}
use Rattle.pc_table.specs.Table.{Table}
use Rattle.pc_table.specs.Loops.{is_inside}
use Rattle.pc_window.specs.Tree.{Tree, Pending, Undecided, Exit, Stop_exit, Trap_exit, Front, Issued, Split, Unfinished, whole}
use Rattle.pc_window.specs.Unwinding.{front_tag}
use Rattle.pc_window.specs.WindowRun.{Window}
use Rattle.pc_waiting.specs.declared.obstacle.Waiting.{Waiting}
use Rattle.pc_waiting.specs.Waiting.{WhatWaits}
use Rattle.pc_told.specs.declared.told_row.ToldRow.{ToldRow}
use Rattle.pc_told.specs.declared.told_row.ToldRow.TheVariants as told

-- what is told: of an item or test its iteration and its origin, a node of the flow graph; at a leaf by how many iterations what is left
-- begins later, where anything is left
pub data Telling : Type 0 where
  Tells_item : (iteration origin : ℕ) → (item : Item) → (rest : Telling) → Telling
  Tells_test : (iteration origin : ℕ) → (on : Operand) → (on_yes on_no : Telling) → Telling
  Tells_leaf : (advance : Option ℕ) → Telling

-- ---- in memory

-- what a told row in memory tells
abbrev pub telling_in : ToldRow → Telling
telling_in (told.Step' iteration origin item p next) = Tells_item iteration origin item (telling_in next)
telling_in (told.Test' iteration origin on p on_yes q on_no) = Tells_test iteration origin on (telling_in on_yes) (telling_in on_no)
telling_in (told.Leaf advance) = Tells_leaf advance

-- what each of a list tells
abbrev pub tellings_in : List ToldRow → List Telling
tellings_in rows = map telling_in rows

-- ---- of a window

-- by how many iterations what stands behind a leaf begins after this one: its least tag, where it is not the end, a trap, or a stub that
-- leads out of the loop
abbrev pub advance_behind : Table → (loop : Option ℕ) → (first : ℕ) → Tree → Option ℕ
advance_behind table loop first (Pending tag origin item rest) = Some (front_tag (Pending tag origin item rest) - first)
advance_behind table loop first (Undecided tag origin on on_yes on_no) = Some (front_tag (Undecided tag origin on on_yes on_no) - first)
advance_behind table loop first (Exit region tag homes) = if is_inside table loop region then Some (tag - first) else None
advance_behind table loop first Stop_exit = None
advance_behind table loop first (Trap_exit kind line) = None

-- the same where the front has neither item nor test: a stub leads out
abbrev pub advance_at_root : Table → (loop : Option ℕ) → (first : ℕ) → Tree → Option ℕ
advance_at_root table loop first (Exit region tag homes) = None
advance_at_root table loop first tree = advance_behind table loop first tree

-- the items and tests of a front, whose iterations are counted from this one on
abbrev pub telling_behind : Table → (loop : Option ℕ) → (first : ℕ) → Front → Telling
telling_behind table loop first (Issued tag origin item rest) = Tells_item (tag - first) origin item (telling_behind table loop first rest)
telling_behind table loop first (Split tag origin on on_yes on_no) =
    Tells_test (tag - first) origin on (telling_behind table loop first on_yes) (telling_behind table loop first on_no)
telling_behind table loop first (Unfinished rest) = Tells_leaf (advance_behind table loop first rest)

-- a whole front
abbrev pub front_telling : Table → (loop : Option ℕ) → (first : ℕ) → Front → Telling
front_telling table loop first (Unfinished rest) = Tells_leaf (advance_at_root table loop first rest)
front_telling table loop first front = telling_behind table loop first front

-- the first iteration of which a window has anything
abbrev pub first_iteration : Window → ℕ
first_iteration w = front_tag (whole w.front)

-- what a window's front tells, with iterations counted from the first of which the window has anything
abbrev pub telling_of : Table → Window → Telling
telling_of table w = front_telling table w.inside (first_iteration w) w.front

-- what waits behind a window's front, with iterations counted so, is put behind what was told of windows before
pub record HasToldWaits (before after : List (List Waiting)) (w : Window) : Type 0 where
  pub found : List Waiting
  pub are : WhatWaits (first_iteration w) w found
  pub told : after ≡ before ++ (found ∷ [])

-- ---- the row of which it is told

-- the items and tests alone, with what is told of each leaf
abbrev pub row_told : Telling → Row (Option ℕ)
row_told (Tells_item iteration origin item rest) = Then item (row_told rest)
row_told (Tells_test iteration origin on on_yes on_no) = Either on (row_told on_yes) (row_told on_no)
row_told (Tells_leaf advance) = At_leaf advance
