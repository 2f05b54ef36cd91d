-- A stub, named by the number of its leaf, becomes its region's tree.
use Rattle.std.specs.Prelude.{ℕ, ◌-◌, ◌^◌, Bool, true, false, ◌&&◌, ◌||◌, if◌then◌else◌, nat_eq, nat_lt, nat_le, Option, Some, None}
use Rattle.pc_table.specs.Table.{Table, region_tree}
use Rattle.pc_table.specs.Loops.{is_inside, innermost_loop}
use Rattle.pc_window.specs.Tree.{Tree, Pending, Undecided, Exit, Stop_exit, Trap_exit, home_of}
use Rattle.pc_window.specs.Opening.{Supply, Grafted, graft, under_item, under_test}
use Rattle.pc_arranging.specs.Numbering.{leaf_count}

-- the greatest tag of a stub that is opened
abbrev pub most_opened_tag : ℕ
most_opened_tag = 2 ^ 30 - 1

-- the loop as for which tags count in the tree of a region: the window's, or, where the region is entered, the innermost one whose header it is, if any
abbrev pub loop_within : Table → (enters : Bool) → Option ℕ → ℕ → Option ℕ
loop_within table true inside region = innermost_loop table region
loop_within table false inside region = inside

-- whether a stub may be opened: its region is inside the window's loop, unless the region is entered, and its tag is not too high
abbrev pub may_open : Table → (enters : Bool) → Option ℕ → (region tag : ℕ) → Bool
may_open table enters inside region tag = (enters || is_inside table inside region) && nat_le tag most_opened_tag

-- the stub with this number among the leaves, replaced by its region's tree
abbrev pub opened_at : Table → (enters : Bool) → Option ℕ → Supply → Tree → (leaf : ℕ) → Option Grafted
opened_at table enters inside names (Pending tag origin item rest) leaf = under_item tag origin item (opened_at table enters inside names rest leaf)
opened_at table enters inside names (Undecided tag origin on p q) leaf =
    if nat_lt leaf (leaf_count p) then under_test tag origin on p q (opened_at table enters inside names p leaf) None
    else under_test tag origin on p q None (opened_at table enters inside names q (leaf - leaf_count p))
opened_at table enters inside names (Exit region tag homes) leaf =
    if nat_eq leaf 0 && may_open table enters inside region tag
    then Some (graft table (loop_within table enters inside region) tag (region_tree table region) names (home_of homes))
    else None
opened_at table enters inside names Stop_exit leaf = None
opened_at table enters inside names (Trap_exit kind line) leaf = None
