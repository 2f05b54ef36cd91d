-- What is told of a front is told of the row that it is cut off as.
use Rattle.std.proofs.Common.{◌≡◌, ℕ, ◌-◌, List, refl, sym, ap, subst}
use Rattle.std.specs.Prelude.{Bool, true, false, if◌then◌else◌, Option, Some, None}
use Rattle.pc_word.specs.Row.{Row}
use Rattle.pc_table.specs.Table.{Table}
use Rattle.pc_table.specs.Loops.{is_inside}
use Rattle.pc_window.specs.declared.home.Home.{Home}
use Rattle.pc_window.specs.Kept.{Left, Rest, Gone}
use Rattle.pc_window.specs.Steps.{left_of, left_at_root, front_row, cut_row, with_tree}
use Rattle.pc_window.specs.Tree.{Tree, Pending, Undecided, Exit, Stop_exit, Trap_exit, Front, Issued, Split, Unfinished}
use Rattle.pc_window.specs.WindowRun.{Window}
use Rattle.pc_canon.specs.Pairs.{Pair}
use Rattle.pc_automaton.specs.declared.automaton.AutomatonLeaf.{AutomatonLeaf}
use Rattle.pc_pattern.specs.NamedRow.{RowsNamed, named_item, named_test, named_leaf}
use Rattle.pc_pattern.specs.Searches.{Rules, LeafFor}
use Rattle.pc_told.specs.Tellings.{advance_behind, advance_at_root, telling_behind, front_telling, row_told, first_iteration}
use Rattle.pc_told.specs.ToldRows.{advance_of, LeafIsTold}

-- ---- leaves

-- what is told of a leaf is how far that goes on which is left there
behind_is : (table : Table) (w : Window) (first : ℕ) (tree : Tree) → advance_behind table w.inside first tree ≡ advance_of first (left_of table w tree)
behind_is table w first (Pending tag origin item rest) = refl
behind_is table w first (Undecided tag origin on on_yes on_no) = refl
behind_is table w first (Exit region tag homes) = by (is_inside table w.inside region)
  where
    by : (b : Bool) → (if b then Some (tag - first) else None) ≡ advance_of first (if b then Rest (with_tree w (Exit region tag homes)) else Gone region homes)
    by true = refl
    by false = refl
behind_is table w first Stop_exit = refl
behind_is table w first (Trap_exit kind line) = refl

at_root_is : (table : Table) (w : Window) (first : ℕ) (tree : Tree) → advance_at_root table w.inside first tree ≡ advance_of first (left_at_root table w tree)
at_root_is table w first (Pending tag origin item rest) = refl
at_root_is table w first (Undecided tag origin on on_yes on_no) = refl
at_root_is table w first (Exit region tag homes) = refl
at_root_is table w first Stop_exit = refl
at_root_is table w first (Trap_exit kind line) = refl

-- ---- rows

module _ (rules : Rules) (members : List Window) (w : Window) (first : ℕ) where
  behind_told : (front : Front) {names : List Pair} {other : Row AutomatonLeaf}
      → RowsNamed (LeafFor rules members) names (front_row (left_of rules.table w) front) other
      → RowsNamed (LeafIsTold rules members first) names (row_told (telling_behind rules.table w.inside first front)) other
  behind_told (Issued tag origin item rest) (named_item name inner) = named_item name (behind_told rest inner)
  behind_told (Split tag origin on on_yes on_no) (named_test one other) = named_test (behind_told on_yes one) (behind_told on_no other)
  behind_told (Unfinished rest) (named_leaf leads) =
      named_leaf (record { left = left_of rules.table w rest; goes_on = behind_is rules.table w first rest; leads = leads })

  pub front_told : (front : Front) {names : List Pair} {other : Row AutomatonLeaf}
      → RowsNamed (LeafFor rules members) names (cut_row rules.table w front) other
      → RowsNamed (LeafIsTold rules members first) names (row_told (front_telling rules.table w.inside first front)) other
  front_told (Issued tag origin item rest) named = behind_told (Issued tag origin item rest) named
  front_told (Split tag origin on on_yes on_no) named = behind_told (Split tag origin on on_yes on_no) named
  front_told (Unfinished rest) (named_leaf leads) =
      named_leaf (record { left = left_at_root rules.table w rest; goes_on = at_root_is rules.table w first rest; leads = leads })
