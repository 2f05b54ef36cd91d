-- The parts of a state's row in words.
use Rattle.std.specs.Prelude.{ℕ, zero, suc, nat_eq, if◌then◌else◌, List, [], ◌∷◌, ◌++◌, codes, Option, Some, None}
use Rattle.std.specs.Fmt.{decimal, signed_decimal}
use Rattle.pc_word.specs.declared.item.Operand.{Operand}
use Rattle.pc_word.specs.declared.item.Operand.TheVariants.{Name, Lit}
use Rattle.pc_word.specs.declared.item.Item.{Item}
use Rattle.pc_word.specs.declared.item.Item.TheVariants.{Bin, Copy, Load, Store, Print, Read, More}
use Rattle.pc_window.specs.declared.home.Home.{Home}
use Rattle.pc_automaton.specs.declared.automaton.AutomatonLeaf.{AutomatonLeaf}
use Rattle.pc_automaton.specs.declared.automaton.AutomatonLeaf.TheVariants.{To, Out, Stop, Trap}
use Rattle.pc_report.specs.FaultLine.{trap_text}
use Rattle.pc_view.specs.Words.{operator_words}
use Rattle.pc_explain.specs.Legends.{array_words, variable_words}
use Rattle.pc_explain.specs.Naming.{Naming, name_words}

-- ---- items and tests

-- a name, or a literal in decimal digits
abbrev pub operand_words : Naming → Operand → List ℕ
operand_words naming (Name name) = name_words naming name
operand_words naming (Lit value) = signed_decimal value

-- an item: what it writes or does, and the operands that it reads
abbrev pub item_words : Naming → Item → List ℕ
item_words naming (Bin op dest left right) =
    name_words naming dest ++ (codes " = " ++ (operand_words naming left ++ (codes " " ++ (operator_words op ++ (codes " " ++ operand_words naming right)))))
item_words naming (Copy dest from) = name_words naming dest ++ (codes " = " ++ operand_words naming from)
item_words naming (Load dest array index) =
    name_words naming dest ++ (codes " = " ++ (array_words naming.legend array ++ (codes "[" ++ (operand_words naming index ++ codes "]"))))
item_words naming (Store array index value) =
    array_words naming.legend array ++ (codes "[" ++ (operand_words naming index ++ (codes "] = " ++ operand_words naming value)))
item_words naming (Print value) = codes "print(" ++ (operand_words naming value ++ codes ")")
item_words naming (Read dest) = name_words naming dest ++ codes " = read()"
item_words naming (More dest) = name_words naming dest ++ codes " = more()"

-- a test: whether its operand is not 0
abbrev pub test_words : Naming → Operand → List ℕ
test_words naming on = codes "if " ++ operand_words naming on

-- where an item or test comes from: its iteration, and the line of the source, if it is known
abbrev pub place_words : (iteration : ℕ) → (line : Option ℕ) → List ℕ
place_words iteration None = codes "+" ++ decimal iteration
place_words iteration (Some line) = codes "+" ++ (decimal iteration ++ (codes " line " ++ decimal line))

-- ---- lists

-- what stands in front of an element of a list in brackets by its place: the bracket, or a comma
abbrev pub opening : (place : ℕ) → List ℕ
opening zero = codes " ("
opening (suc place) = codes ", "

-- what stands after so many elements: the bracket, which is left out where there are none
abbrev pub closing : (count : ℕ) → List ℕ
closing zero = []
closing (suc count) = codes ")"

-- what a leaf passes to a state, of which the first is the element `place` of its list
abbrev pub arguments_from : Naming → (place : ℕ) → List Operand → List ℕ
arguments_from naming place [] = closing place
arguments_from naming place (argument ∷ rest) = opening place ++ (operand_words naming argument ++ arguments_from naming (suc place) rest)

-- a variable and its value
unfoldable pub home_words : Naming → Home → List ℕ
home_words naming home = variable_words naming.legend home.variable ++ (codes " = " ++ operand_words naming home.value)

-- the values of variables where a leaf leads to a region
abbrev pub homes_from : Naming → (place : ℕ) → List Home → List ℕ
homes_from naming place [] = closing place
homes_from naming place (home ∷ rest) = opening place ++ (home_words naming home ++ homes_from naming (suc place) rest)

-- what stands in front of a parameter by its place
abbrev pub taking : (place : ℕ) → List ℕ
taking zero = codes " "
taking (suc place) = codes ", "

-- what stands in place of no parameters
abbrev pub nothing_taken : (count : ℕ) → List ℕ
nothing_taken zero = codes " nothing"
nothing_taken (suc count) = []

-- the parameters of a state
abbrev pub parameters_from : Naming → (place : ℕ) → List ℕ → List ℕ
parameters_from naming place [] = nothing_taken place
parameters_from naming place (name ∷ rest) = taking place ++ (name_words naming name ++ parameters_from naming (suc place) rest)

-- ---- leaves

-- the first iteration of which anything is left at a leaf, if anything is
abbrev pub advance_words : Option ℕ → List ℕ
advance_words None = []
advance_words (Some advance) = codes ", from +" ++ (decimal advance ++ codes " on")

-- a state by its number, as the successor of another
unfoldable pub state_words : ℕ → List ℕ
state_words state = codes "to state " ++ decimal state

-- a region by its number, as the successor of a state; where it is the header of the loop itself, that is the next iteration
unfoldable pub region_words : (header region : ℕ) → List ℕ
region_words header region = if nat_eq region header then codes "to the next iteration" else codes "to region " ++ decimal region

-- a leaf of a loop with this header: the state that it leads to, what this is passed, and from which iteration on it goes; the region and
-- the values of variables there; the end; or the trap with its line
abbrev pub leaf_words : (header : ℕ) → Naming → AutomatonLeaf → (advance : Option ℕ) → List ℕ
leaf_words header naming (To state arguments) advance = state_words state ++ (arguments_from naming 0 arguments ++ advance_words advance)
leaf_words header naming (Out region homes) advance = region_words header region ++ homes_from naming 0 homes
leaf_words header naming Stop advance = codes "stop"
leaf_words header naming (Trap kind line) advance = codes "trap: " ++ (trap_text kind ++ (codes " at line " ++ decimal line))

-- ---- where nothing is explained

-- that there is no innermost loop, or none at the line that is asked for
abbrev pub no_loop_words : (asked : Option ℕ) → List ℕ
no_loop_words None = codes "no innermost loop"
no_loop_words (Some line) = codes "no innermost loop at line " ++ decimal line
