-- Other operands in place of those that are read.
use Rattle.std.specs.Prelude.{◌≡◌, List, [], ◌∷◌}
use Rattle.pc_word.specs.declared.item.Operand.{Operand}
use Rattle.pc_window.specs.declared.home.Home.{Home}
use Rattle.pc_window.specs.Tree.{Tree, Pending, Undecided, Exit, Stop_exit, Trap_exit}
use Rattle.pc_word.specs.Naming.{map_operands}

-- a function gives what R relates to each operand
abbrev pub Gives : (Operand → Operand → Type 0) → (Operand → Operand) → Type 0
Gives R f = (o p : Operand) → R o p → p ≡ f o

-- the one home has what R relates to the value of the other
abbrev pub MapsHome : (Operand → Operand → Type 0) → Home → Home → Type 0
MapsHome R home other = (o : Operand) × R home.value o × (other ≡ record { variable = home.variable; value = o })

-- homes that read other operands
abbrev pub map_homes : (Operand → Operand) → List Home → List Home
map_homes f [] = []
map_homes f (home ∷ homes) = record { variable = home.variable; value = f home.value } ∷ map_homes f homes

-- a tree that reads other operands
abbrev pub mapped : (Operand → Operand) → Tree → Tree
mapped f (Pending tag origin item rest) = Pending tag origin (map_operands f item) (mapped f rest)
mapped f (Undecided tag origin on on_yes on_no) = Undecided tag origin (f on) (mapped f on_yes) (mapped f on_no)
mapped f (Exit region tag homes) = Exit region tag (map_homes f homes)
mapped f Stop_exit = Stop_exit
mapped f (Trap_exit kind line) = Trap_exit kind line
