-- Regions that are entered, in memory.
use Rattle.std.proofs.Common.{◌≡◌, ℕ, suc, zero, ◌-◌, ◌<◌, ◌≤◌, Bool, true, false, List, length, Option, None, Result, Ok, Err, IfOk, refl, sym, ◌∙◌, ap, arith}
use Rattle.std.specs.Prelude.{nat_lt, if◌then◌else◌}
use Rattle.std.proofs.lemmas.Bool.{lt-ltb}
use Rattle.pc_word.specs.declared.item.Limits.{Limits}
use Rattle.pc_word.proofs.Truth.{of_most}
use Rattle.pc_table.specs.declared.table.RegionTable.{RegionTable}
use Rattle.pc_table.specs.Table.{Table}
use Rattle.pc_table.specs.StoredTable.{table_of}
use Rattle.pc_table.proofs.StoredRegions.{as_many}
use Rattle.pc_window.specs.declared.home.Home.{Home}
use Rattle.pc_window.specs.declared.tree.WindowTree.{WindowTree}
use Rattle.pc_window.specs.declared.tree.WindowTree.TheVariants as stored_tree
use Rattle.pc_window.specs.declared.window.Window.{Window as StoredWindow}
use Rattle.pc_window.specs.Tree.{Tree, Exit, whole}
use Rattle.pc_window.specs.WindowRun.{Window}
use Rattle.pc_window.specs.Steps.{opened_window, IsProper}
use Rattle.pc_window.specs.StoredWindow.{tree_in, front_in, window_in, InNodes, IsJustOpened}
use Rattle.pc_window.proofs.WindowsStored.{whole_in}
use Rattle.pc_certified.specs.Facts.{Fact}
use Rattle.pc_matching.specs.declared.fact.Fact as stored_fact
use Rattle.pc_matching.specs.Facts.{facts_of}
use Rattle.pc_settling.specs.declared.remaining.Remaining as stored_remaining
use Rattle.pc_settling.specs.Remaining.{Remaining}
use Rattle.pc_settling.specs.Begun.{facts_in_region, in_region, entered, entered_if}
use Rattle.pc_settling.specs.Stored.{remaining_in, some_remaining_in, IsLeft}

-- a window that was just opened is left to do
pub opened_left : (w : StoredWindow) → IsProper (window_in w) → InNodes true w.tree → IsJustOpened w → IsLeft w
opened_left w proper nodes small = let size = small.size in record { proper = proper; nodes = nodes; size = omega (arith, size) }

-- an opened window and the facts in it
pub is_in_region : (table : Table) (limits : Limits) (region : ℕ) (homes : List Home) (facts inside : List Fact) (w : Window)
    → w ≡ opened_window table limits region → inside ≡ facts_in_region homes facts
    → (let it : Remaining = record { window = w; facts = inside } in it) ≡ in_region table limits region homes facts
is_in_region table limits region homes facts inside w is facts_are = λ i. record { window = is i; facts = facts_are i }

module _ (table : RegionTable) (limits : Limits) (left : Remaining) (region tag : ℕ) (homes : List Home) where
  abbrev through : ℕ → Option Remaining
  through most = entered (table_of table) limits left (Exit region tag homes) most

  -- no more regions may be entered
  pub enters_no_more : (most : ℕ) → most ≡ 0 → None ≡ through most
  enters_no_more most is = sym (ap through is)

  -- a region that is not there is not entered
  pub enters_nowhere : (most : ℕ) → length table.regions ≤ region → None ≡ through most
  enters_nowhere zero above = refl
  enters_nowhere (suc most) above = choose (nat_lt region (length (table_of table).regions)) none
    where
      none : nat_lt region (length (table_of table).regions) ≡ false
      none = let many = as_many table.regions in of_most region (length (table_of table).regions) (omega (arith, many, above))

      choose : (b : Bool) → b ≡ false
          → None ≡ (if b then entered (table_of table) limits (in_region (table_of table) limits region homes left.facts) (whole (opened_window (table_of table) limits region).front) most else None)
      choose false e = refl
      choose true e = absurd (cc)

  -- a region is entered, and then no more than one less
  pub enters_one : (most : ℕ) (inside : stored_remaining.Remaining) (found : Option Remaining) → (most ≡ 0 → ⊥) → region < length table.regions
      → remaining_in inside ≡ in_region (table_of table) limits region homes left.facts
      → found ≡ entered (table_of table) limits (remaining_in inside) (tree_in inside.window.tree) (most - 1) → found ≡ through most
  enters_one zero inside found some there is goes = absurd (some refl)
  enters_one (suc most) inside found some there is goes =
      goes ∙ ap (λ (n : ℕ). entered (table_of table) limits (remaining_in inside) (tree_in inside.window.tree) n) (let e : suc most - 1 ≡ most = omega arith in e)
      ∙ ap (λ (t : Tree). entered (table_of table) limits (remaining_in inside) t most) (sym (whole_in inside.window.tree))
      ∙ ap (λ (r : Remaining). entered (table_of table) limits r (whole r.window.front) most) is ∙ choose (nat_lt region (length (table_of table).regions)) yes
    where
      yes : nat_lt region (length (table_of table).regions) ≡ true
      yes = let many = as_many table.regions in lt-ltb region (length (table_of table).regions) (omega (arith, many, there))

      choose : (b : Bool) → b ≡ true
          → entered (table_of table) limits (in_region (table_of table) limits region homes left.facts) (whole (opened_window (table_of table) limits region).front) most
          ≡ (if b then entered (table_of table) limits (in_region (table_of table) limits region homes left.facts) (whole (opened_window (table_of table) limits region).front) most else None)
      choose true e = refl
      choose false e = absurd (cc)

-- so it is where memory does not run out
pub enters_one_ok : {E : Type 0} (table : RegionTable) (limits : Limits) (left : stored_remaining.Remaining) (region tag : ℕ) (homes : List Home) (most : ℕ)
    (inside : stored_remaining.Remaining) (result : Result (Option stored_remaining.Remaining) E) → left.window.tree ≡ stored_tree.Exit region tag homes
    → (most ≡ 0 → ⊥) → region < length table.regions → (given : List Home) (facts : List stored_fact.Fact) → given ≡ homes → facts ≡ left.facts
    → remaining_in inside ≡ in_region (table_of table) limits region given (facts_of facts)
    → IfOk result (λ found. some_remaining_in found ≡ entered (table_of table) limits (remaining_in inside) (tree_in inside.window.tree) (most - 1))
    → IfOk result (λ found. some_remaining_in found ≡ entered (table_of table) limits (remaining_in left) (tree_in left.window.tree) most)
enters_one_ok table limits left region tag homes most inside (Err error) tree_is some there given facts given_is facts_are is goes = tt
enters_one_ok table limits left region tag homes most inside (Ok found) tree_is some there given facts given_is facts_are is goes =
    enters_one table limits (remaining_in left) region tag homes most inside (some_remaining_in found) some there
    (is ∙ (λ i. in_region (table_of table) limits region (given_is i) (facts_of (facts_are i)))) goes
    ∙ ap (λ (t : WindowTree). entered (table_of table) limits (remaining_in left) (tree_in t) most) (sym tree_is)

-- the regions of a table in memory are as many
pub enters_all : (table : RegionTable) (limits : Limits) (left : stored_remaining.Remaining) (found : Option Remaining) (most : ℕ) → most ≡ length table.regions
    → found ≡ entered (table_of table) limits (remaining_in left) (tree_in left.window.tree) most → found ≡ entered_if (table_of table) limits true (remaining_in left)
enters_all table limits left found most is goes =
    goes ∙ ap (λ (t : Tree). entered (table_of table) limits (remaining_in left) t most) (sym (whole_in left.window.tree))
    ∙ ap (λ (n : ℕ). entered (table_of table) limits (remaining_in left) (whole (front_in left.window.tree)) n) (is ∙ sym (as_many table.regions))

pub ruleset regions = (is_in_region, enters_no_more, enters_nowhere, enters_all)
