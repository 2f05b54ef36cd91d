-- Chains of items round a cycle, each of which has to stand in a later row than the one before: it reads what that one wrote, or may not stand in
-- one row with it.
use Rattle.std.specs.Prelude.{◌≡◌, ℕ, suc, ◌+◌, ◌*◌, ◌%◌, ◌≤◌, Bool, true, false, not, ◌&&◌, if◌then◌else◌, nat_eq, is_some, List, [], ◌∷◌, length, Option, Some, None, slice_get}
use Rattle.std.specs.List.{count_by, list_any}
use Rattle.pc_word.specs.declared.item.Operand.{Operand}
use Rattle.pc_word.specs.declared.item.Operand.TheVariants.{Name, Lit}
use Rattle.pc_word.specs.Items.{dest_of, reads}
use Rattle.pc_word.specs.Commit.{writes}
use Rattle.pc_automaton.specs.declared.automaton.AutomatonLeaf.{AutomatonLeaf}
use Rattle.pc_automaton.specs.declared.automaton.AutomatonLeaf.TheVariants.{To, Out, Stop, Trap}
use Rattle.pc_automaton.specs.Automaton.{AutomatonState}
use Rattle.pc_waiting.specs.declared.obstacle.Obstacle.{Obstacle}
use Rattle.pc_waiting.specs.declared.obstacle.Obstacle.TheVariants as told
use Rattle.pc_waiting.specs.declared.obstacle.Waiting.{Waiting}
use Rattle.pc_told.specs.Tellings.{Telling}
use Rattle.pc_cycles.specs.declared.carrier.Carrier.{Carrier}
use Rattle.pc_cycles.specs.declared.carrier.Carrier.TheVariants as by
use Rattle.pc_cycles.specs.declared.chain.Chain.{Chain}
use Rattle.pc_cycles.specs.declared.chain.Link.{Link}
use Rattle.pc_cycles.specs.declared.told_item.ToldItem.{ToldItem}
use Rattle.pc_cycles.specs.declared.transition.Transition.{Transition}
use Rattle.pc_cycles.specs.Transitions.{leaf_to, told_items_from, advance_from}

-- ---- through a row

-- whether an item takes a carrier up: it reads the name, or is the one that waits
abbrev pub takes_up : ToldItem → Carrier → Bool
takes_up it (by.Value name) = reads it.item name
takes_up it (by.Waiting iteration origin) = nat_eq it.iteration iteration && nat_eq it.origin origin

-- whether it is the item that an obstacle names as one which may not be passed
abbrev pub is_met : ToldItem → Obstacle → Bool
is_met it (told.Needs iteration origin) = false
is_met it (told.Meets iteration origin) = nat_eq it.iteration iteration && nat_eq it.origin origin
is_met it (told.Undecided iteration origin) = false
is_met it (told.NoRoom resource) = false

-- whether what waits has this iteration and origin
abbrev pub is_of : (iteration origin : ℕ) → Waiting → Bool
is_of iteration origin entry = nat_eq entry.iteration iteration && nat_eq entry.origin origin

-- whether it has, and does not wait because it may not pass this item
abbrev pub waits_otherwise : ToldItem → (iteration origin : ℕ) → Waiting → Bool
waits_otherwise it iteration origin entry = is_of iteration origin entry && not (is_met it entry.obstacle)

-- whether something of this iteration and origin waits, and, on whichever side of a test it stands, because it may not pass this item
abbrev pub keeps_all : ToldItem → (iteration origin : ℕ) → List Waiting → Bool
keeps_all it iteration origin entries = list_any (is_of iteration origin) entries && not (list_any (waits_otherwise it iteration origin) entries)

-- the same of what is told to wait, if anything is told
abbrev pub has_waiting : ToldItem → (iteration origin : ℕ) → Option (List Waiting) → Bool
has_waiting it iteration origin None = false
has_waiting it iteration origin (Some entries) = keeps_all it iteration origin entries

-- whether an item brings a carrier, where this waits behind the row: it writes the name, or keeps the one that waits
abbrev pub brings : Option (List Waiting) → ToldItem → Carrier → Bool
brings entries it (by.Value name) = writes (dest_of it.item) name
brings entries it (by.Waiting iteration origin) = has_waiting it iteration origin entries

-- a carrier goes through a row, where these items stand on the path and this waits behind it: it stays as it is, or an item takes it up and brings another
pub data GoesThrough (items : List ToldItem) (entries : Option (List Waiting)) : Carrier → (item : Option ℕ) → Carrier → Type 0 where
  as_it_is : {carrier : Carrier} → GoesThrough items entries carrier None carrier
  by_item : {place : ℕ} {it : ToldItem} {from to : Carrier} → slice_get items place ≡ Some it → takes_up it from ≡ true → brings entries it to ≡ true
      → GoesThrough items entries from (Some place) to

-- ---- by a leaf

-- the argument for a parameter
abbrev pub argument_for : List ℕ → List Operand → (parameter : ℕ) → Option Operand
argument_for (first ∷ parameters) (argument ∷ arguments) parameter =
    if nat_eq first parameter then Some argument else argument_for parameters arguments parameter
argument_for _ _ parameter = None

-- the argument for a parameter of a state, if the state is there
abbrev pub argument_of : Option AutomatonState → List Operand → (parameter : ℕ) → Option Operand
argument_of None arguments parameter = None
argument_of (Some state) arguments parameter = argument_for state.parameters arguments parameter

-- the argument that a leaf passes for a parameter of the state to which it leads
abbrev pub passed_by : List AutomatonState → Option AutomatonLeaf → (parameter : ℕ) → Option Operand
passed_by states None parameter = None
passed_by states (Some (To number arguments)) parameter = argument_of (slice_get states number) arguments parameter
passed_by states (Some (Out region homes)) parameter = None
passed_by states (Some Stop) parameter = None
passed_by states (Some (Trap kind line)) parameter = None

-- the same by the leaf of a state
abbrev pub passed_from : List AutomatonState → Option AutomatonState → (leaf parameter : ℕ) → Option Operand
passed_from states None leaf parameter = None
passed_from states (Some state) leaf parameter = passed_by states (leaf_to state.row leaf) parameter

-- the value of an argument, where it is a name's
abbrev pub value_of : Option Operand → Option Carrier
value_of None = None
value_of (Some (Name name)) = Some (by.Value name)
value_of (Some (Lit value)) = None

-- what waits, where the leaf goes on by so many iterations
abbrev pub waiting_before : (advance : Option ℕ) → (iteration origin : ℕ) → Option Carrier
waiting_before None iteration origin = None
waiting_before (Some advance) iteration origin = Some (by.Waiting (iteration + advance) origin)

-- the carrier that a transition passes on as this one: the value that is passed for the parameter, or the item that waits, whose iteration is counted from the first of which
-- anything is left
abbrev pub passes_as : List AutomatonState → List Telling → Transition → Carrier → Option Carrier
passes_as states tellings transition (by.Value parameter) =
    value_of (passed_from states (slice_get states transition.state) transition.leaf parameter)
passes_as states tellings transition (by.Waiting iteration origin) =
    waiting_before (advance_from (slice_get states transition.state) (slice_get tellings transition.state) transition.leaf) iteration origin

-- ---- links

-- a link carries on by a transition: what comes of the carrier in the row is passed on as the link's
pub record Carries (states : List AutomatonState) (tellings : List Telling) (waits : List (List Waiting)) (transition : Transition) (carrier : Carrier) (link : Link) : Type 0 where
  pub brought : Carrier
  pub through : GoesThrough (told_items_from (slice_get states transition.state) (slice_get tellings transition.state) transition.leaf)
      (slice_get waits transition.state) carrier link.item brought
  pub passed : passes_as states tellings transition link.to ≡ Some brought

-- links carry on round a cycle, from this row on, each from where the one before brought it
pub data Carry (states : List AutomatonState) (tellings : List Telling) (waits : List (List Waiting)) (transitions : List Transition) :
    (at : ℕ) → Carrier → List Link → (last : Carrier) → Type 0 where
  by_no_link : {at : ℕ} {carrier : Carrier} → Carry states tellings waits transitions at carrier [] carrier
  by_link : {at : ℕ} {carrier last : Carrier} {transition : Transition} {link : Link} {links : List Link}
      → slice_get transitions (at % length transitions) ≡ Some transition → Carries states tellings waits transition carrier link
      → Carry states tellings waits transitions (suc at) link.to links last → Carry states tellings waits transitions at carrier (link ∷ links) last

-- ---- chains

-- a chain round a cycle: after so many times round its links come back to where it starts
pub record IsChain (states : List AutomatonState) (tellings : List Telling) (waits : List (List Waiting)) (transitions : List Transition) (chain : Chain) : Type 0 where
  pub carried : Carry states tellings waits transitions 0 chain.start chain.links chain.start
  pub rounds : length chain.links ≡ length transitions * chain.rounds
  pub some_rounds : 1 ≤ chain.rounds
  pub some_items : 1 ≤ chain.items
  pub items : chain.items ≡ count_by (λ link. is_some link.item) chain.links
