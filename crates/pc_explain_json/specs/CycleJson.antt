-- Cycles of states as JSON objects, with what bounds the rows that once around takes.
use Rattle.std.specs.Prelude.{ℕ, suc, nat_eq, List, [], ◌∷◌, ◌++◌, codes, length, map, Option, Some, None}
use Rattle.pc_cycles.specs.declared.chain.Chain.{Chain}
use Rattle.pc_cycles.specs.declared.chain.Link.{Link}
use Rattle.pc_cycles.specs.declared.cycle.Cycle.{Cycle}
use Rattle.pc_cycles.specs.declared.transition.Transition.{Transition}
use Rattle.pc_cycles.specs.Bounds.{chain_bound, cycle_bound}
use Rattle.serde_json.specs.Data.{Data, boolean, null}
use Rattle.pc_json.specs.Json.{Field, count_field, field, list_of, object_of, optional, text_field, whole}
use Rattle.pc_explain.specs.Explained.{LoopSchedule}
use Rattle.pc_explain.specs.Links.{link_line}
use Rattle.pc_explain.specs.Waits.{resource_words}

-- ---- chains

-- a link by the line of its item, as a list of one, or none where it has no item
abbrev pub link_json : (item line : Option ℕ) → List Data
link_json None line = []
link_json (Some item) line = optional line ∷ []

-- links by the lines of their items, of which the first is the link `at` of a chain round these transitions
abbrev pub links_json : (lines : List ℕ) → LoopSchedule → List Transition → (at : ℕ) → List Link → List Data
links_json lines schedule transitions at [] = []
links_json lines schedule transitions at (link ∷ rest) =
    link_json link.item (link_line lines schedule.states schedule.tellings transitions at link) ++ links_json lines schedule transitions (suc at) rest

-- a chain, if there is one
abbrev pub chain_json : (lines : List ℕ) → LoopSchedule → List Transition → Option Chain → Data
chain_json lines schedule transitions None = null
chain_json lines schedule transitions (Some chain) =
    object_of
    (count_field (codes "items") chain.items
    ∷ count_field (codes "rounds") chain.rounds
    ∷ field (codes "lines") (list_of (links_json lines schedule transitions 0 chain.links))
    ∷ count_field (codes "least_rows") (chain_bound chain)
    ∷ [])

-- ---- cycles

-- the states on a cycle, and how many rows once around takes
abbrev pub way_fields : List Transition → List Field
way_fields transitions =
    field (codes "states") (list_of (map (λ transition. whole transition.state) transitions))
    ∷ count_field (codes "rows") (length transitions)
    ∷ []

-- what stands on it
abbrev pub count_fields : Cycle → List Field
count_fields cycle =
    count_field (codes "iterations") cycle.iterations
    ∷ count_field (codes "items") cycle.items
    ∷ count_field (codes "tests") cycle.tests
    ∷ count_field (codes "taken") cycle.taken
    ∷ count_field (codes "loads_and_stores") cycle.memory
    ∷ []

-- how many rows it takes at least, and whether it takes no more
abbrev pub bound_fields : (lines : List ℕ) → LoopSchedule → Cycle → List Field
bound_fields lines schedule cycle =
    count_field (codes "least_rows") cycle.least_rows
    ∷ text_field (codes "resource") (resource_words cycle.resource)
    ∷ field (codes "chain") (chain_json lines schedule cycle.transitions cycle.chain)
    ∷ count_field (codes "bound") (cycle_bound cycle)
    ∷ field (codes "reached") (boolean (nat_eq (cycle_bound cycle) (length cycle.transitions)))
    ∷ []

-- a cycle of a schedule, by the line of the source of each node of the flow graph
abbrev pub cycle_json : (lines : List ℕ) → LoopSchedule → Cycle → Data
cycle_json lines schedule cycle = object_of (way_fields cycle.transitions ++ (count_fields cycle ++ bound_fields lines schedule cycle))
