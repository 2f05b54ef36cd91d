-- Windows as plain data: a front, which is a tree of finished items and tests, and the trees behind its leaves.
use Rattle.std.specs.Prelude.{ℕ, suc, pos, ◌+◌, if◌then◌else◌, nat_eq, List, [], ◌∷◌}
use Rattle.pc_word.specs.declared.item.Item.{Item}
use Rattle.pc_word.specs.declared.item.Operand.{Operand}
use Rattle.pc_word.specs.declared.item.Operand.TheVariants.{Lit}
use Rattle.pc_window.specs.declared.home.Home.{Home}
use Rattle.pc_word.specs.declared.item.TrapKind.{TrapKind}
use Rattle.pc_word.specs.State.{State}
use Rattle.pc_word.specs.Items.{operand_value}

-- unfinished items and tests down to the places where the window is left: a stub that leads to a region, the end, or a trap
pub data Tree : Type 0 where
  Pending : (tag origin : ℕ) → (item : Item) → (rest : Tree) → Tree
  Undecided : (tag origin : ℕ) → (on : Operand) → (on_yes on_no : Tree) → Tree
  Exit : (region tag : ℕ) → (homes : List Home) → Tree
  Stop_exit : Tree
  Trap_exit : (kind : TrapKind) → (line : ℕ) → Tree

-- finished items and tests, and behind each leaf what is not finished
pub data Front : Type 0 where
  Issued : (tag origin : ℕ) → (item : Item) → (rest : Front) → Front
  Split : (tag origin : ℕ) → (on : Operand) → (on_yes on_no : Front) → Front
  Unfinished : (rest : Tree) → Front

-- the whole window as one tree
abbrev pub whole : Front → Tree
whole (Issued tag origin item rest) = Pending tag origin item (whole rest)
whole (Split tag origin on on_yes on_no) = Undecided tag origin on (whole on_yes) (whole on_no)
whole (Unfinished rest) = rest

-- the front of a tree that becomes a window: its first item or test
abbrev pub front_of : Tree → Front
front_of (Pending tag origin item rest) = Issued tag origin item (Unfinished rest)
front_of (Undecided tag origin on on_yes on_no) = Split tag origin on (Unfinished on_yes) (Unfinished on_no)
front_of (Exit region tag homes) = Unfinished (Exit region tag homes)
front_of Stop_exit = Unfinished Stop_exit
front_of (Trap_exit kind line) = Unfinished (Trap_exit kind line)

-- items and tests together
abbrev pub tree_size : Tree → ℕ
tree_size (Pending tag origin item rest) = suc (tree_size rest)
tree_size (Undecided tag origin on on_yes on_no) = suc (tree_size on_yes + tree_size on_no)
tree_size (Exit region tag homes) = 0
tree_size Stop_exit = 0
tree_size (Trap_exit kind line) = 0

-- ---- homes

-- the home of a variable; 0 where it has none
abbrev pub home_of : List Home → ℕ → Operand
home_of [] v = Lit (pos 0)
home_of (home ∷ homes) v = if nat_eq home.variable v then home.value else home_of homes v

-- the state in which each variable has the value of its home
abbrev pub state_at : (ℕ → Operand) → State → State
state_at homes s = record { names = λ v. operand_value s.names (homes v); cells = s.cells; input = s.input }

-- the same for homes in a list
abbrev pub home_state : State → List Home → State
home_state s homes = state_at (home_of homes) s
