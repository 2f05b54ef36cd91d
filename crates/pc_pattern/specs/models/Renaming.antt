-- Names of a state's row in place of those of a window.
use Rattle.std.specs.Prelude.{ℕ, if◌then◌else◌, nat_eq, List, [], ◌∷◌, map, Option, Some, None}
use Rattle.pc_word.specs.declared.item.Operand.{Operand}
use Rattle.pc_word.specs.declared.item.Operand.TheVariants.{Name, Lit}
use Rattle.pc_window.specs.declared.home.Home.{Home}
use Rattle.pc_automaton.specs.declared.automaton.AutomatonLeaf.{AutomatonLeaf}
use Rattle.pc_automaton.specs.declared.automaton.AutomatonLeaf.TheVariants.{To, Out, Stop, Trap}
use Rattle.pc_pattern.specs.declared.renaming.Renaming.{Renaming}
use Rattle.pc_pattern.specs.declared.renaming.Renaming.TheVariants.{Themselves, Written'}
use Rattle.pc_canon.specs.Pairs.{Pair}

-- the pairs of names that are written on the way, the last one first
abbrev pub pairs_in : Renaming → List Pair
pairs_in Themselves = []
pairs_in (Written' one other p above) = record { one = one; other = other } ∷ pairs_in above

-- a name of the state's row for a name: that of the first pair which has it, or itself
abbrev pub renamed_name : List Pair → ℕ → ℕ
renamed_name [] x = x
renamed_name (pair ∷ pairs) x = if nat_eq pair.one x then pair.other else renamed_name pairs x

abbrev pub renamed_operand : List Pair → Operand → Operand
renamed_operand names (Name x) = Name (renamed_name names x)
renamed_operand names (Lit value) = Lit value

abbrev pub renamed_home : List Pair → Home → Home
renamed_home names home = record { variable = home.variable; value = renamed_operand names home.value }

abbrev pub renamed_homes : List Pair → List Home → List Home
renamed_homes names homes = map (renamed_home names) homes

-- the arguments for some parameters
abbrev pub arguments_for : List Pair → List ℕ → List Operand
arguments_for names parameters = map (λ (x : ℕ). Name (renamed_name names x)) parameters

-- the leaf that a window without items and tests is, renamed
abbrev pub renamed_leaf : List Pair → AutomatonLeaf → AutomatonLeaf
renamed_leaf names (To number arguments) = To number arguments
renamed_leaf names (Out region homes) = Out region (renamed_homes names homes)
renamed_leaf names Stop = Stop
renamed_leaf names (Trap kind line) = Trap kind line

-- the same, if it is one
abbrev pub renamed_bare : List Pair → Option AutomatonLeaf → Option AutomatonLeaf
renamed_bare names None = None
renamed_bare names (Some leaf) = Some (renamed_leaf names leaf)
