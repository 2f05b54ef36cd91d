-- The row of a state, made from a cut row: with new names, and with leaves that lead to members; and the members that come of it.
use Rattle.std.specs.Prelude.{◌≡◌, ℕ, suc, ◌+◌, ◌≤◌, List, [], ◌∷◌, ◌++◌, length, Some, None}
use Rattle.pc_word.specs.declared.item.Item.{Item}
use Rattle.pc_word.specs.declared.item.Operand.{Operand}
use Rattle.pc_word.specs.declared.item.TrapKind.{TrapKind}
use Rattle.pc_word.specs.MachineLimits.{most_ops, most_tests}
use Rattle.pc_word.specs.Items.{dest_of}
use Rattle.pc_word.specs.Row.{Row, Then, Either, At_leaf}
use Rattle.pc_table.specs.Table.{Table}
use Rattle.pc_table.specs.TableKeeps.{most_region_nodes}
use Rattle.pc_window.specs.declared.home.Home.{Home}
use Rattle.pc_window.specs.Tree.{whole, tree_size}
use Rattle.pc_window.specs.Opening.{first_new}
use Rattle.pc_window.specs.Names.{parameters_of}
use Rattle.pc_window.specs.WindowRun.{Window}
use Rattle.pc_window.specs.Kept.{Left, Rest, Gone, Finished, Trapped_at}
use Rattle.pc_window.specs.Steps.{FillsTo, Cuts, opened_window}
use Rattle.pc_canon.specs.Pairs.{Pair}
use Rattle.pc_canon.specs.Key.{key_of}
use Rattle.pc_automaton.specs.declared.automaton.AutomatonLeaf.{AutomatonLeaf}
use Rattle.pc_automaton.specs.declared.automaton.AutomatonLeaf.TheVariants.{To, Out, Stop, Trap}
use Rattle.pc_automaton.specs.Automaton.{AutomatonState}
use Rattle.pc_pattern.specs.declared.error.SearchError.{SearchError}
use Rattle.pc_pattern.specs.declared.member_key.MemberKey.{MemberKey}
use Rattle.pc_pattern.specs.declared.error.SearchError.TheVariants.{Memory, NoPattern}
use Rattle.pc_pattern.specs.declared.leading.Bounds.{Bounds}
use Rattle.pc_pattern.specs.Searches.{Rules, Settles, BringsOn, bare_leaf}
use Rattle.pc_pattern.specs.Pattern.{rules_for}
use Rattle.pc_pattern.specs.models.Pools.{Pool, keys_in, IsNowhere, IsNumbered}
use Rattle.pc_pattern.specs.models.Renaming.{renamed_homes, renamed_bare, arguments_for}
use Rattle.pc_word.specs.Naming.{with_dest}

-- the rules of a search within these bounds
abbrev pub rules_within : Table → Bounds → Rules
rules_within table bounds = rules_for table bounds.limits bounds.extent.window

-- ---- leaves

-- a window that was brought on is a leaf, where these names were written on the way: with the members before and after
pub data WindowLeads (written : List Pair) (pool : Pool) (w : Window) : AutomatonLeaf → Pool → Type 0 where
  leads_member : {number : ℕ} {later : Pool} → renamed_bare written (bare_leaf (whole w.front)) ≡ None → IsNumbered pool w number later
      → WindowLeads written pool w (To number (arguments_for written (parameters_of (whole w.front)))) later
  leads_bare : {leaf : AutomatonLeaf} → renamed_bare written (bare_leaf (whole w.front)) ≡ Some leaf → WindowLeads written pool w leaf pool

-- what is left at a leaf of a cut row becomes a leaf
pub data LeftLeads (rules : Rules) (written : List Pair) (pool : Pool) : Left → AutomatonLeaf → Pool → Type 0 where
  leads_rest : {rest brought : Window} {leaf : AutomatonLeaf} {later : Pool} → BringsOn rules rest brought → WindowLeads written pool brought leaf later
      → LeftLeads rules written pool (Rest rest) leaf later
  leads_region : {region : ℕ} {homes : List Home} → LeftLeads rules written pool (Gone region homes) (Out region (renamed_homes written homes)) pool
  leads_end : LeftLeads rules written pool Finished Stop pool
  leads_trap : {kind : TrapKind} {line : ℕ} → LeftLeads rules written pool (Trapped_at kind line) (Trap kind line) pool

-- ---- rows

-- a cut row becomes the row of a state: each item gets the next name, which stands for the name that it writes, if any
pub data RowLeads (rules : Rules) : List Pair → ℕ → Pool → Row Left → Row AutomatonLeaf → ℕ → Pool → Type 0 where
  leads_plain : {written : List Pair} {next later : ℕ} {pool after : Pool} {item : Item} {rest : Row Left} {below : Row AutomatonLeaf}
      → dest_of item ≡ None → RowLeads rules written (suc next) pool rest below later after
      → RowLeads rules written next pool (Then item rest) (Then (with_dest next item) below) later after
  leads_written : {written : List Pair} {next later one : ℕ} {pool after : Pool} {item : Item} {rest : Row Left} {below : Row AutomatonLeaf}
      → dest_of item ≡ Some one → RowLeads rules (record { one = one; other = next } ∷ written) (suc next) pool rest below later after
      → RowLeads rules written next pool (Then item rest) (Then (with_dest next item) below) later after
  leads_test : {written : List Pair} {next mid later : ℕ} {pool middle after : Pool} {on : Operand} {on_yes on_no : Row Left}
      {yes_row no_row : Row AutomatonLeaf}
      → RowLeads rules written next pool on_yes yes_row mid middle → RowLeads rules written mid middle on_no no_row later after
      → RowLeads rules written next pool (Either on on_yes on_no) (Either on yes_row no_row) later after
  leads_leaf : {written : List Pair} {next : ℕ} {pool after : Pool} {left : Left} {leaf : AutomatonLeaf}
      → LeftLeads rules written pool left leaf after → RowLeads rules written next pool (At_leaf left) (At_leaf leaf) next after

-- ---- more members than there may be

-- a key is one too many, and these are the keys; or memory ran out
pub data KeyRefused (rows : ℕ) (keys : List (List ℕ)) (key : List ℕ) : SearchError → Type 0 where
  key_memory : KeyRefused rows keys key Memory
  key_many : {reached : List MemberKey} → IsNowhere keys key → length keys ≡ rows → keys_in reached ≡ keys ++ key ∷ []
      → KeyRefused rows keys key (NoPattern reached)

-- a window that was brought on is one member too many, and these are the keys; or memory ran out
pub data WindowRefused (rows : ℕ) (pool : Pool) (w : Window) : SearchError → Type 0 where
  refused_memory : WindowRefused rows pool w Memory
  refused_many : {reached : List MemberKey} → bare_leaf (whole w.front) ≡ None → IsNowhere pool.keys (key_of w) → length pool.keys ≡ rows
      → keys_in reached ≡ pool.keys ++ key_of w ∷ [] → WindowRefused rows pool w (NoPattern reached)

-- the same of what is left at a leaf
pub data LeftRefused (rules : Rules) (rows : ℕ) (pool : Pool) : Left → SearchError → Type 0 where
  refused_here : {left : Left} → LeftRefused rules rows pool left Memory
  refused_rest : {rest brought : Window} {error : SearchError} → BringsOn rules rest brought → WindowRefused rows pool brought error
      → LeftRefused rules rows pool (Rest rest) error

-- the same of a row
pub data RowRefused (rules : Rules) (rows : ℕ) : Pool → Row Left → SearchError → Type 0 where
  refused_row : {pool : Pool} {row : Row Left} → RowRefused rules rows pool row Memory
  refused_below : {pool : Pool} {item : Item} {rest : Row Left} {error : SearchError} → RowRefused rules rows pool rest error
      → RowRefused rules rows pool (Then item rest) error
  refused_yes : {pool : Pool} {on : Operand} {on_yes on_no : Row Left} {error : SearchError} → RowRefused rules rows pool on_yes error
      → RowRefused rules rows pool (Either on on_yes on_no) error
  refused_no : {written : List Pair} {next mid : ℕ} {pool middle : Pool} {on : Operand} {on_yes on_no : Row Left} {yes_row : Row AutomatonLeaf}
      {error : SearchError}
      → RowLeads rules written next pool on_yes yes_row mid middle → RowRefused rules rows middle on_no error
      → RowRefused rules rows pool (Either on on_yes on_no) error
  refused_leaf : {pool : Pool} {left : Left} {error : SearchError} → LeftRefused rules rows pool left error
      → RowRefused rules rows pool (At_leaf left) error

-- ---- states

-- the first member of a search: the region's window, unwound and tidied
pub record IsFirst (rules : Rules) (region : ℕ) (first : Window) : Type 0 where
  pub settles : Settles rules (opened_window rules.table rules.limits region) first
  pub size : tree_size (whole (opened_window rules.table rules.limits region).front) ≤ most_region_nodes
  pub names : (opened_window rules.table rules.limits region).next ≤ first_new + most_region_nodes

-- the most items and tests that a front has
abbrev pub most_in_front : ℕ
most_in_front = most_ops + most_tests

-- the state of a window: it is filled and cut, and its row leads on
pub record Made (rules : Rules) (w : Window) (pool : Pool) (state : AutomatonState) (after : Pool) : Type 0 where
  pub parameters : state.parameters ≡ parameters_of (whole w.front)
  pub filled : Window
  pub fills : FillsTo w filled
  pub grown : filled.next ≤ w.next + most_in_front
  pub cut : Row Left
  pub cuts : Cuts rules.table filled cut
  pub later : ℕ
  pub row : RowLeads rules [] filled.next pool cut state.row later after

-- why a window has no state
pub data Unmade (rules : Rules) (rows : ℕ) (w : Window) (pool : Pool) : SearchError → Type 0 where
  unmade_memory : Unmade rules rows w pool Memory
  unmade_row : {filled : Window} {cut : Row Left} {error : SearchError} → FillsTo w filled → Cuts rules.table filled cut
      → RowRefused rules rows pool cut error → Unmade rules rows w pool error
