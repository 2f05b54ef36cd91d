-- Windows that have room to be unwound.
use Rattle.std.proofs.Common.{◌≡◌, ℕ, ◌<◌, ◌≤◌, ◌^◌, true, List, [], ◌∷◌, length, map, Option, Some, None, IfSome, refl, sym, ap, arith}
use Rattle.std.specs.Prelude.{◌&&◌, nat_le, nat_lt, nat_eq}
use Rattle.std.proofs.lemmas.Bool.{eqb-true, leb-true, ltb-true}
use Rattle.pc_word.specs.Items.{array_of}
use Rattle.pc_word.proofs.Truth.{and_true}
use Rattle.pc_table.specs.declared.table.RegionTable.{RegionTable}
use Rattle.pc_table.specs.Table.{Table, region_live}
use Rattle.pc_table.specs.StoredTable.{table_of}
use Rattle.pc_window.specs.declared.home.Home.{Home}
use Rattle.pc_window.specs.declared.window.Window.{Window as StoredWindow}
use Rattle.pc_window.specs.Tree.{Tree, Pending, Undecided, Exit, Stop_exit, Trap_exit, whole, tree_size}
use Rattle.pc_window.specs.There.{PartsAreThere}
use Rattle.pc_window.specs.StoredWindow.{tree_in, front_in, window_in}
use Rattle.pc_window.proofs.WindowsStored.{whole_in}
use Rattle.pc_unwind.specs.Unwindable.{CanUnwind}
use Rattle.pc_unwind.proofs.PartsThere.{parts_higher}
use Rattle.pc_settling.specs.Begun.{most_number, has_array, are_homes_of, parts_fit, has_room}
use Rattle.pc_settling.specs.Stored.{IsLeft}

-- what a tree in memory names fits where what the window's tree names does
pub parts_in : (table : Table) (w : StoredWindow) → parts_fit table (tree_in w.tree) ≡ parts_fit table (whole (window_in w).front)
parts_in table w = ap (parts_fit table) (sym (whole_in w.tree))

pub ruleset rooms = (parts_in)

-- ---- what has room may be unwound

array_there : (table : Table) (array : Option ℕ) → has_array table array ≡ true → IfSome array (λ number. number < length table.arrays)
array_there table None h = tt
array_there table (Some array) h = ltb-true array (length table.arrays) h

homes_there : (variables : List ℕ) (homes : List Home) → are_homes_of variables homes ≡ true → map (λ (home : Home). home.variable) homes ≡ variables
homes_there [] [] h = refl
homes_there (variable ∷ variables) (home ∷ homes) h =
    let both = and_true (nat_eq home.variable variable) (are_homes_of variables homes) h in
    λ i. eqb-true home.variable variable both.0 i ∷ homes_there variables homes both.1 i
homes_there [] (home ∷ homes) h = absurd (cc)
homes_there (variable ∷ variables) [] h = absurd (cc)

pub fits_there : (table : Table) (tree : Tree) → parts_fit table tree ≡ true → PartsAreThere table most_number tree
fits_there table (Pending tag origin item rest) h =
    let both = and_true (nat_le tag most_number && has_array table (array_of item)) (parts_fit table rest) h in
    let first = and_true (nat_le tag most_number) (has_array table (array_of item)) both.0 in
    (leb-true tag most_number first.0, array_there table (array_of item) first.1, fits_there table rest both.1)
fits_there table (Undecided tag origin on on_yes on_no) h =
    let both = and_true (nat_le tag most_number && parts_fit table on_yes) (parts_fit table on_no) h in
    let first = and_true (nat_le tag most_number) (parts_fit table on_yes) both.0 in
    (leb-true tag most_number first.0, fits_there table on_yes first.1, fits_there table on_no both.1)
fits_there table (Exit region tag homes) h =
    let both = and_true (nat_le tag most_number && nat_lt region (length table.regions)) (are_homes_of (region_live table region) homes) h in
    let first = and_true (nat_le tag most_number) (nat_lt region (length table.regions)) both.0 in (
      leb-true tag most_number first.0,
      record { leads = ltb-true region (length table.regions) first.1; live = homes_there (region_live table region) homes both.1 },
    )
fits_there table Stop_exit h = tt
fits_there table (Trap_exit kind line) h = tt

-- what the test of room says
pub record Room (table : Table) (w : StoredWindow) : Type 0 where
  pub names : length w.names.forms ≤ 2 ^ 29
  pub variables : w.names.next_variable ≤ 2 ^ 29
  pub parts : PartsAreThere table (2 ^ 29) (whole (window_in w).front)

pub room_of : (table : Table) (w : StoredWindow) → has_room table (window_in w) ≡ true → Room table w
room_of table w h =
    let names = nat_le (length w.names.forms) most_number in
    let variables = nat_le w.names.next_variable most_number in
    let both = and_true (names && variables) (parts_fit table (whole (window_in w).front)) h in
    let first = and_true names variables both.0 in
    record {
      names = leb-true (length w.names.forms) most_number first.0;
      variables = leb-true w.names.next_variable most_number first.1;
      parts = fits_there table (whole (window_in w).front) both.1;
    }

pub can_unwind : (table : RegionTable) (w : StoredWindow) → IsLeft w → has_room (table_of table) (window_in w) ≡ true → CanUnwind (table_of table) (window_in w)
can_unwind table w left h =
    let room = room_of (table_of table) w h in
    let size = left.size in
    let same : tree_size (whole (front_in w.tree)) ≡ tree_size (tree_in w.tree) = ap tree_size (whole_in w.tree) in
    let names = room.names in
    let variables = room.variables in
    record {
      parts = parts_higher (table_of table) (2 ^ 29) (2 ^ 30) (whole (window_in w).front) (omega arith) room.parts;
      size = omega (arith, size, same);
      names = omega (arith, names);
      variables = omega (arith, variables);
    }
