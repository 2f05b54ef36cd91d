-- The windows that a search from a region comes to, and the automaton that they are.
use Rattle.std.specs.Prelude.{◌≡◌, ℕ, suc, ◌≤◌, List, [], ◌∷◌, ◌++◌, length, map, nat_eq, Option, Some, None, slice_get}
use Rattle.std.specs.List.{IsDistinct}
use Rattle.pc_word.specs.declared.item.Limits.{Limits}
use Rattle.pc_word.specs.declared.item.Operand.{Operand}
use Rattle.pc_word.specs.declared.item.TrapKind.{TrapKind}
use Rattle.pc_word.specs.Row.{Row, items_of, leaves_of}
use Rattle.pc_table.specs.Table.{Table}
use Rattle.pc_window.specs.declared.home.Home.{Home}
use Rattle.pc_window.specs.Tree.{Tree, Pending, Undecided, Exit, Stop_exit, Trap_exit, whole}
use Rattle.pc_window.specs.WindowRun.{Window}
use Rattle.pc_window.specs.Names.{parameters_of}
use Rattle.pc_window.specs.Kept.{Left, Rest, Gone, Finished, Trapped_at}
use Rattle.pc_window.specs.Steps.{Opens, FillsTo, Cuts, Rebases, UnwindsTo, Tidies}
use Rattle.pc_canon.specs.Pairs.{Pair, themselves, operands_for, ArgumentsAlike, HomesAlike}
use Rattle.pc_canon.specs.Shift.{ShiftedBy, Shifted}
use Rattle.pc_canon.specs.Canonical.{parameter_pairs}
use Rattle.pc_canon.specs.Key.{key_of}
use Rattle.pc_renumber.specs.Renumbering.{Renumbers}
use Rattle.pc_automaton.specs.declared.automaton.AutomatonLeaf.{AutomatonLeaf}
use Rattle.pc_automaton.specs.declared.automaton.AutomatonLeaf.TheVariants.{To, Out, Stop, Trap}
use Rattle.pc_automaton.specs.Automaton.{AutomatonState, names_written}
use Rattle.pc_pattern.specs.NamedRow.{RowsNamed, LeavesAlike, WritesInOrder}

-- what a search goes by: the regions, the limits of fronts, and the window number: how many turns of its loop a window may hold
pub record Rules : Type 0 where
  pub table : Table
  pub limits : Limits
  pub number : ℕ

-- ---- the steps

-- a window's row: it is filled and its front is cut
pub record RowFor (rules : Rules) (w : Window) (row : Row Left) : Type 0 where
  pub filled : Window
  pub fills : FillsTo w filled
  pub cuts : Cuts rules.table filled row

-- a window is unwound and tidied
pub record Settles (rules : Rules) (w v : Window) : Type 0 where
  pub unwound : Window
  pub unwinds : UnwindsTo rules.table rules.number w unwound
  pub tidies : Tidies unwound v

-- a window is rebased, unwound and tidied
pub record BringsOn (rules : Rules) (w v : Window) : Type 0 where
  pub rebased : Window
  pub rebases : Rebases w rebased
  pub settles : Settles rules rebased v

-- the leaf that a window without items and tests is
abbrev pub bare_leaf : Tree → Option AutomatonLeaf
bare_leaf (Pending tag origin item rest) = None
bare_leaf (Undecided tag origin on on_yes on_no) = None
bare_leaf (Exit region tag homes) = Some (Out region homes)
bare_leaf Stop_exit = Some Stop
bare_leaf (Trap_exit kind line) = Some (Trap kind line)

-- ---- the search

-- a window is equal to some member up to a shift
abbrev pub IsMember : List Window → Window → Type 0
IsMember members w = (number : ℕ) × (member : Window) × (slice_get members number ≡ Some member) × Shifted w member

-- a window is equal to no member up to a shift
abbrev pub IsNoMember : List Window → Window → Type 0
IsNoMember members w = (number : ℕ) (member : Window) → slice_get members number ≡ Some member → Shifted w member → ⊥

-- a leaf adds the window that is left there, brought on and renumbered, where something is left to do in it and it is equal to no
-- member up to a shift
pub data Looks (rules : Rules) (members : List Window) : Left → List Window → Type 0 where
  looks_new : {rest brought member : Window} → BringsOn rules rest brought → bare_leaf (whole brought.front) ≡ None → IsNoMember members brought
      → Renumbers brought member → Looks rules members (Rest rest) (members ++ (member ∷ []))
  looks_known : {rest brought : Window} → BringsOn rules rest brought → bare_leaf (whole brought.front) ≡ None → IsMember members brought
      → Looks rules members (Rest rest) members
  looks_bare : {rest brought : Window} {leaf : AutomatonLeaf} → BringsOn rules rest brought → bare_leaf (whole brought.front) ≡ Some leaf
      → Looks rules members (Rest rest) members
  looks_out : {region : ℕ} {homes : List Home} → Looks rules members (Gone region homes) members
  looks_end : Looks rules members Finished members
  looks_trap : {kind : TrapKind} {line : ℕ} → Looks rules members (Trapped_at kind line) members

-- after so many steps, a search from a region has these members, has taken the rows of the first so many, and has these leaves
-- still to look at
pub data Search (rules : Rules) (region : ℕ) : ℕ → List Window → ℕ → List Left → Type 0 where
  begins : {opened first : Window} → Opens rules.table rules.limits region opened → Settles rules opened first
      → Search rules region 0 (first ∷ []) 0 []
  takes : {steps number : ℕ} {members : List Window} {w : Window} {row : Row Left}
      → Search rules region steps members number [] → slice_get members number ≡ Some w → RowFor rules w row
      → Search rules region (suc steps) members (suc number) (leaves_of row)
  looks : {steps number : ℕ} {members more : List Window} {left : Left} {lefts : List Left}
      → Search rules region steps members number (left ∷ lefts) → Looks rules members left more
      → Search rules region (suc steps) more number lefts

-- the members are closed: the row of each was taken, and all leaves were looked at
abbrev pub IsClosed : Rules → ℕ → List Window → Type 0
IsClosed rules region members = (steps : ℕ) × Search rules region steps members (length members) []

-- the search comes to have these members
abbrev pub IsReached : Rules → ℕ → List Window → Type 0
IsReached rules region members = (steps : ℕ) × (number : ℕ) × (lefts : List Left) × Search rules region steps members number lefts

-- ---- the automaton of some members

-- what is left at a leaf of a row, and the leaf that it becomes, where these names of the row and of the automaton's row
-- correspond: a member that is equal up to a shift, with the parameters that correspond to its own, in the order of first use; or
-- what it is already
pub data LeafFor (rules : Rules) (members : List Window) : List Pair → Left → AutomatonLeaf → Type 0 where
  to_member : {names : List Pair} {rest : Window} {number : ℕ} {arguments : List Operand} (brought member : Window)
      → BringsOn rules rest brought → bare_leaf (whole brought.front) ≡ None
      → slice_get members number ≡ Some member → ShiftedBy (parameter_pairs brought member) brought member
      → ArgumentsAlike names (operands_for (parameters_of (whole brought.front))) arguments
      → LeafFor rules members names (Rest rest) (To number arguments)
  to_bare : {names : List Pair} {rest : Window} {other : AutomatonLeaf} (brought : Window) (leaf : AutomatonLeaf)
      → BringsOn rules rest brought → bare_leaf (whole brought.front) ≡ Some leaf → LeavesAlike names leaf other
      → LeafFor rules members names (Rest rest) other
  to_region : {names : List Pair} {region : ℕ} {homes homes' : List Home} → HomesAlike names homes homes'
      → LeafFor rules members names (Gone region homes) (Out region homes')
  to_end : {names : List Pair} → LeafFor rules members names Finished Stop
  to_trap : {names : List Pair} {kind : TrapKind} {line : ℕ} → LeafFor rules members names (Trapped_at kind line) (Trap kind line)

-- the state of a member: its parameters, and its row with a name of its own for each place that writes one, in preorder the numbers
-- from the first on that is new once the member is filled, and with leaves that lead on
pub record StateFor (rules : Rules) (members : List Window) (w : Window) (state : AutomatonState) : Type 0 where
  pub parameters : state.parameters ≡ parameters_of (whole w.front)
  pub cut : Row Left
  pub row_for : RowFor rules w cut
  pub matches : RowsNamed (LeafFor rules members) (themselves (parameters_of (whole w.front))) cut state.row
  pub ordered : WritesInOrder row_for.filled.next (items_of state.row)
  pub once : IsDistinct nat_eq (state.parameters ++ names_written state.row)

-- one state for each member, in their order
pub record Automates (rules : Rules) (members : List Window) (states : List AutomatonState) : Type 0 where
  pub as_many : length states ≡ length members
  pub each : (number : ℕ) (w : Window) → slice_get members number ≡ Some w
      → (state : AutomatonState) × (slice_get states number ≡ Some state) × StateFor rules members w state

-- ---- what a search answers

-- states are those of at most so many closed members
pub record IsPattern (rules : Rules) (region rows : ℕ) (states : List AutomatonState) : Type 0 where
  pub members : List Window
  pub closed : IsClosed rules region members
  pub few : length members ≤ rows
  pub automates : Automates rules members states

-- the search comes to have more members than so many
pub record HasNoPattern (rules : Rules) (region rows : ℕ) : Type 0 where
  pub members : List Window
  pub reached : IsReached rules region members
  pub many : length members ≡ suc rows

-- no two numbers of a list are those of one element
abbrev pub AreDifferent : {A : Type 0} → List A → Type 0
AreDifferent {A} xs = (i j : ℕ) (x : A) → slice_get xs i ≡ Some x → slice_get xs j ≡ Some x → i ≡ j

-- the search comes to have more members than so many: one more, with these keys, no two of which are equal
pub record HasKeys (rules : Rules) (region rows : ℕ) (keys : List (List ℕ)) : Type 0 where
  pub none : HasNoPattern rules region rows
  pub keys_of : keys ≡ map key_of none.members
  pub differ : AreDifferent keys
