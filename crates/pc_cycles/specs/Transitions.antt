-- Transitions from state to state: where they lead, and what stands on the way.
use Rattle.std.specs.Prelude.{◌≡◌, ℕ, Bool, ◌-◌, if◌then◌else◌, nat_eq, nat_lt, List, [], ◌∷◌, ◌++◌, length, Option, Some, None, slice_get}
use Rattle.pc_word.specs.declared.item.Item.{Item}
use Rattle.pc_word.specs.declared.item.Operand.{Operand}
use Rattle.pc_word.specs.Row.{Row, Then, Either, At_leaf, leaves_of}
use Rattle.pc_automaton.specs.declared.automaton.AutomatonLeaf.{AutomatonLeaf}
use Rattle.pc_automaton.specs.declared.automaton.AutomatonLeaf.TheVariants.{To, Out, Stop, Trap}
use Rattle.pc_automaton.specs.Automaton.{AutomatonState}
use Rattle.pc_told.specs.Tellings.{Telling, Tells_item, Tells_test, Tells_leaf}
use Rattle.pc_cycles.specs.declared.told_item.ToldItem.{ToldItem}
use Rattle.pc_cycles.specs.declared.transition.Transition.{Transition}

-- ---- through one row

-- the leaf with this number, if there is one; they are counted from 0, the yes side of a test first
abbrev pub leaf_to : {L : Type 0} → Row L → (leaf : ℕ) → Option L
leaf_to (Then item rest) leaf = leaf_to rest leaf
leaf_to (Either on on_yes on_no) leaf =
    if nat_lt leaf (length (leaves_of on_yes)) then leaf_to on_yes leaf else leaf_to on_no (leaf - length (leaves_of on_yes))
leaf_to (At_leaf here) leaf = if nat_eq leaf 0 then Some here else None

-- the items on the path to it
abbrev pub items_to : {L : Type 0} → Row L → (leaf : ℕ) → List Item
items_to (Then item rest) leaf = item ∷ items_to rest leaf
items_to (Either on on_yes on_no) leaf =
    if nat_lt leaf (length (leaves_of on_yes)) then items_to on_yes leaf else items_to on_no (leaf - length (leaves_of on_yes))
items_to (At_leaf here) leaf = []

-- the operands of the tests on it
abbrev pub tests_to : {L : Type 0} → Row L → (leaf : ℕ) → List Operand
tests_to (Then item rest) leaf = tests_to rest leaf
tests_to (Either on on_yes on_no) leaf =
    on ∷ (if nat_lt leaf (length (leaves_of on_yes)) then tests_to on_yes leaf else tests_to on_no (leaf - length (leaves_of on_yes)))
tests_to (At_leaf here) leaf = []

-- the operands of those that are taken: it goes on to their yes side
abbrev pub taken_to : {L : Type 0} → Row L → (leaf : ℕ) → List Operand
taken_to (Then item rest) leaf = taken_to rest leaf
taken_to (Either on on_yes on_no) leaf =
    if nat_lt leaf (length (leaves_of on_yes)) then on ∷ taken_to on_yes leaf else taken_to on_no (leaf - length (leaves_of on_yes))
taken_to (At_leaf here) leaf = []

-- the origins that are told of the tests on it, and of its items too, if they are asked for
abbrev pub origins_to : {L : Type 0} → (of_items : Bool) → Row L → Telling → (leaf : ℕ) → List ℕ
origins_to of_items (Then item rest) (Tells_item iteration origin told below) leaf =
    if of_items then origin ∷ origins_to of_items rest below leaf else origins_to of_items rest below leaf
origins_to of_items (Either on on_yes on_no) (Tells_test iteration origin told one other) leaf =
    origin ∷ (if nat_lt leaf (length (leaves_of on_yes)) then origins_to of_items on_yes one leaf
    else origins_to of_items on_no other (leaf - length (leaves_of on_yes)))
origins_to of_items _ _ leaf = []

-- the origin that is told of the item with this number among those on it, counted from 0, if there are so many
abbrev pub item_origin_to : {L : Type 0} → Row L → Telling → (leaf number : ℕ) → Option ℕ
item_origin_to (Then item rest) (Tells_item iteration origin told below) leaf number =
    if nat_eq number 0 then Some origin else item_origin_to rest below leaf (number - 1)
item_origin_to (Either on on_yes on_no) (Tells_test iteration origin told one other) leaf number =
    if nat_lt leaf (length (leaves_of on_yes)) then item_origin_to on_yes one leaf number
    else item_origin_to on_no other (leaf - length (leaves_of on_yes)) number
item_origin_to _ _ leaf number = None

-- the items on the path to it, with what is told of each
abbrev pub told_items_to : {L : Type 0} → Row L → Telling → (leaf : ℕ) → List ToldItem
told_items_to (Then item rest) (Tells_item iteration origin told below) leaf =
    record { iteration = iteration; origin = origin; item = item } ∷ told_items_to rest below leaf
told_items_to (Either on on_yes on_no) (Tells_test iteration origin told one other) leaf =
    if nat_lt leaf (length (leaves_of on_yes)) then told_items_to on_yes one leaf
    else told_items_to on_no other (leaf - length (leaves_of on_yes))
told_items_to _ _ leaf = []

-- by how many iterations what is left there begins later, where anything is
abbrev pub advance_to : {L : Type 0} → Row L → Telling → (leaf : ℕ) → Option ℕ
advance_to (Then item rest) (Tells_item iteration origin told below) leaf = advance_to rest below leaf
advance_to (Either on on_yes on_no) (Tells_test iteration origin told one other) leaf =
    if nat_lt leaf (length (leaves_of on_yes)) then advance_to on_yes one leaf else advance_to on_no other (leaf - length (leaves_of on_yes))
advance_to (At_leaf here) (Tells_leaf advance) leaf = if nat_eq leaf 0 then advance else None
advance_to _ _ leaf = None

-- ---- by a transition

-- the state to which a leaf leads, if it leads to one
abbrev pub successor_of : Option AutomatonLeaf → Option ℕ
successor_of None = None
successor_of (Some (To state arguments)) = Some state
successor_of (Some (Out region homes)) = None
successor_of (Some Stop) = None
successor_of (Some (Trap kind line)) = None

-- the same of the leaf of a state, if the state is there
abbrev pub successor_from : Option AutomatonState → (leaf : ℕ) → Option ℕ
successor_from None leaf = None
successor_from (Some state) leaf = successor_of (leaf_to state.row leaf)

-- the state to which a transition leads, if it leads to one
abbrev pub next_of : List AutomatonState → Transition → Option ℕ
next_of states transition = successor_from (slice_get states transition.state) transition.leaf

-- the items on the path to a leaf of a state
abbrev pub items_from : Option AutomatonState → (leaf : ℕ) → List Item
items_from None leaf = []
items_from (Some state) leaf = items_to state.row leaf

-- the operands of the tests on it
abbrev pub tests_from : Option AutomatonState → (leaf : ℕ) → List Operand
tests_from None leaf = []
tests_from (Some state) leaf = tests_to state.row leaf

-- the operands of those that are taken
abbrev pub taken_from : Option AutomatonState → (leaf : ℕ) → List Operand
taken_from None leaf = []
taken_from (Some state) leaf = taken_to state.row leaf

-- the origins that are told of the tests, and of the items too, if they are asked for
abbrev pub origins_from : (of_items : Bool) → Option AutomatonState → Option Telling → (leaf : ℕ) → List ℕ
origins_from of_items (Some state) (Some telling) leaf = origins_to of_items state.row telling leaf
origins_from of_items _ _ leaf = []

-- the items on the path to a leaf of a state, with what is told of each
abbrev pub told_items_from : Option AutomatonState → Option Telling → (leaf : ℕ) → List ToldItem
told_items_from (Some state) (Some telling) leaf = told_items_to state.row telling leaf
told_items_from _ _ leaf = []

-- by how many iterations what is left there begins later, where anything is
abbrev pub advance_from : Option AutomatonState → Option Telling → (leaf : ℕ) → Option ℕ
advance_from (Some state) (Some telling) leaf = advance_to state.row telling leaf
advance_from _ _ leaf = None

-- ---- by several

-- transitions lead from a state to a state, each from where the one before led to
pub data Leads (states : List AutomatonState) : (from : ℕ) → List Transition → (to : ℕ) → Type 0 where
  by_none : {at : ℕ} → Leads states at [] at
  by_first : {from next to : ℕ} {first : Transition} {others : List Transition} → first.state ≡ from → next_of states first ≡ Some next
      → Leads states next others to → Leads states from (first ∷ others) to

-- the items on the way
abbrev pub items_along : List AutomatonState → List Transition → List Item
items_along states [] = []
items_along states (first ∷ others) = items_from (slice_get states first.state) first.leaf ++ items_along states others

-- the operands of the tests on the way
abbrev pub tests_along : List AutomatonState → List Transition → List Operand
tests_along states [] = []
tests_along states (first ∷ others) = tests_from (slice_get states first.state) first.leaf ++ tests_along states others

-- the operands of those that are taken
abbrev pub taken_along : List AutomatonState → List Transition → List Operand
taken_along states [] = []
taken_along states (first ∷ others) = taken_from (slice_get states first.state) first.leaf ++ taken_along states others

-- the origins that are told of the tests, and of the items too, if they are asked for
abbrev pub origins_along : (of_items : Bool) → List AutomatonState → List Telling → List Transition → List ℕ
origins_along of_items states tellings [] = []
origins_along of_items states tellings (first ∷ others) =
    origins_from of_items (slice_get states first.state) (slice_get tellings first.state) first.leaf ++ origins_along of_items states tellings others
