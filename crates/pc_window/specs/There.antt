-- What a window names is there in its table: arrays, and the regions and variables of its stubs; and how high its tags are.
use Rattle.std.specs.Prelude.{◌≡◌, ℕ, ◌<◌, ◌≤◌, List, length, map, IfSome}
use Rattle.std.specs.List.{AllByRecursion}
use Rattle.pc_word.specs.declared.item.Item.{Item}
use Rattle.pc_word.specs.Items.{array_of}
use Rattle.pc_word.specs.Row.{Row, items_of, leaves_of}
use Rattle.pc_table.specs.Table.{Table, region_live}
use Rattle.pc_window.specs.declared.home.Home.{Home}
use Rattle.pc_window.specs.Tree.{Tree, Pending, Undecided, Exit, Stop_exit, Trap_exit, whole}
use Rattle.pc_window.specs.Kept.{Left, Rest, Gone, Finished, Trapped_at}

-- the array of an item, if it has one, is one of the table's
abbrev pub ArrayIsThere : Table → Item → Type 0
ArrayIsThere table item = IfSome (array_of item) (λ array. array < length table.arrays)

-- a stub leads to a region of the table, and has a home for each variable that is live at its head, in their order
pub record StubIsThere (table : Table) (region : ℕ) (homes : List Home) : Type 0 where
  pub leads : region < length table.regions
  pub live : map (λ home. home.variable) homes ≡ region_live table region

-- what a tree names is there, and its tags are at most a number
abbrev pub PartsAreThere : Table → ℕ → Tree → Type 0
PartsAreThere table most (Pending tag origin item rest) = (tag ≤ most) × ArrayIsThere table item × PartsAreThere table most rest
PartsAreThere table most (Undecided tag origin on on_yes on_no) =
    (tag ≤ most) × PartsAreThere table most on_yes × PartsAreThere table most on_no
PartsAreThere table most (Exit region tag homes) = (tag ≤ most) × StubIsThere table region homes
PartsAreThere table most Stop_exit = Unit {0}
PartsAreThere table most (Trap_exit kind line) = Unit {0}

-- so is what a leaf names at which a window was cut
abbrev pub LeftIsThere : Table → ℕ → Left → Type 0
LeftIsThere table most (Rest w) = PartsAreThere table most (whole w.front)
LeftIsThere table most (Gone region homes) = StubIsThere table region homes
LeftIsThere table most Finished = Unit {0}
LeftIsThere table most (Trapped_at kind line) = Unit {0}

-- and what the row of its front names
pub record RowIsThere (table : Table) (most : ℕ) (row : Row Left) : Type 0 where
  pub items : AllByRecursion (ArrayIsThere table) (items_of row)
  pub leaves : AllByRecursion (LeftIsThere table most) (leaves_of row)
