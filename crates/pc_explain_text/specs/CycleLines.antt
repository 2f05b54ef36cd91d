-- Cycles of states as lines: what stands on each, and how few rows it could take.
use Rattle.std.specs.Prelude.{ℕ, suc, nat_eq, is_some, if◌then◌else◌, List, [], ◌∷◌, ◌++◌, codes, length, Option, Some, None}
use Rattle.std.specs.Fmt.{decimal}
use Rattle.pc_automaton.specs.Automaton.{AutomatonState}
use Rattle.pc_told.specs.Tellings.{Telling}
use Rattle.pc_cycles.specs.declared.chain.Chain.{Chain}
use Rattle.pc_cycles.specs.declared.chain.Link.{Link}
use Rattle.pc_cycles.specs.declared.cycle.Cycle.{Cycle}
use Rattle.pc_cycles.specs.declared.transition.Transition.{Transition}
use Rattle.pc_cycles.specs.Bounds.{chain_bound, cycle_bound}
use Rattle.pc_view.specs.Listing.{separator}
use Rattle.pc_view.specs.Tally.{hundredths_words, part_of}
use Rattle.pc_waiting.specs.declared.obstacle.Resource.{Resource}
use Rattle.pc_explain.specs.Waits.{resource_words}
use Rattle.pc_explain.specs.Links.{link_line}

-- ---- its states

-- the states from which transitions lead, of which the first is number `place` of its list
abbrev pub states_from : (place : ℕ) → List Transition → List ℕ
states_from place [] = []
states_from place (transition ∷ rest) = separator place ++ (decimal transition.state ++ states_from (suc place) rest)

-- what stands in front of them
unfoldable pub states_front : List ℕ
states_front = codes "    cycle of states"

-- how many rows once around takes, and how many iterations go by
unfoldable pub round_words : (rows iterations : ℕ) → List ℕ
round_words rows iterations = codes ": rows " ++ (decimal rows ++ (codes ", iterations " ++ decimal iterations))

-- a cycle: its states in order, with that
abbrev pub cycle_words : Cycle → List ℕ
cycle_words cycle = states_front ++ (states_from 0 cycle.transitions ++ round_words (length cycle.transitions) cycle.iterations)

-- ---- its room

-- what stands on a cycle, and how many of its tests are taken
unfoldable pub standing_words : (items tests taken memory : ℕ) → List ℕ
standing_words items tests taken memory =
    codes "        items " ++ (decimal items ++ (codes ", tests " ++ (decimal tests ++ (codes " (" ++ (decimal taken
    ++ (codes " taken), loads and stores " ++ decimal memory))))))

-- how many rows are taken at least
unfoldable pub least_words : (rows : ℕ) → List ℕ
least_words rows = codes ": at least " ++ (decimal rows ++ codes " rows")

-- how many rows have room for it, and of what there is too much for fewer
unfoldable pub needing_words : (rows : ℕ) → Resource → List ℕ
needing_words rows resource = codes ": at least " ++ (decimal rows ++ (codes " rows, because of " ++ resource_words resource))

-- both
unfoldable pub room_words : Cycle → List ℕ
room_words cycle = standing_words cycle.items cycle.tests cycle.taken cycle.memory ++ needing_words cycle.least_rows cycle.resource

-- ---- its chain

-- how many items a chain has, and how many times round it goes
unfoldable pub chain_front : Chain → List ℕ
chain_front chain = codes "        chain: items " ++ (decimal chain.items ++ (codes ", rounds " ++ (decimal chain.rounds ++ codes ", lines")))

-- the line that an item comes from, or a question mark where it is not known
abbrev pub line_words : Option ℕ → List ℕ
line_words None = codes "?"
line_words (Some line) = decimal line

-- the lines of the items of links, of which the first link is number `at` of its chain, and the first item is number `place` of them
abbrev pub item_lines : (line_of : ℕ → Link → Option ℕ) → (place at : ℕ) → List Link → List ℕ
item_lines line_of place at [] = []
item_lines line_of place at (link ∷ rest) =
    if is_some link.item then separator place ++ (line_words (line_of at link) ++ item_lines line_of (suc place) (suc at) rest)
    else item_lines line_of place (suc at) rest

-- a chain round a cycle: its length, the lines of its items in order, and that
abbrev pub chain_words : (lines : List ℕ) → List AutomatonState → List Telling → List Transition → Chain → List ℕ
chain_words lines states tellings transitions chain =
    chain_front chain ++ (item_lines (link_line lines states tellings transitions) 0 0 chain.links ++ least_words (chain_bound chain))

-- the line of the chain, if there is one
abbrev pub chain_lines : (lines : List ℕ) → List AutomatonState → List Telling → List Transition → Option Chain → List (List ℕ)
chain_lines lines states tellings transitions None = []
chain_lines lines states tellings transitions (Some chain) = chain_words lines states tellings transitions chain ∷ []

-- ---- its bound

-- a bound, and of how many rows
unfoldable pub bound_front : (bound rows : ℕ) → List ℕ
bound_front bound rows = codes "        bound: rows " ++ (decimal bound ++ (codes " of " ++ (decimal rows ++ codes ", ")))

-- how near a bound is to the rows: it is reached, or is such a percentage of them, with two decimals and cut off
abbrev pub nearness : (bound rows : ℕ) → List ℕ
nearness bound rows = if nat_eq bound rows then codes "reached" else hundredths_words (part_of 10000 bound rows) ++ codes " %"

-- a bound, and how near it is to the rows
abbrev pub bound_words : (bound rows : ℕ) → List ℕ
bound_words bound rows = bound_front bound rows ++ nearness bound rows

-- ---- all of it

-- the lines of a cycle of these states; `lines` has the line of the source of each node of the flow graph
abbrev pub cycle_lines : (lines : List ℕ) → List AutomatonState → List Telling → Cycle → List (List ℕ)
cycle_lines lines states tellings cycle =
    cycle_words cycle ∷ (room_words cycle ∷ (chain_lines lines states tellings cycle.transitions cycle.chain
    ++ bound_words (cycle_bound cycle) (length cycle.transitions) ∷ []))
