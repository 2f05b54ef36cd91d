-- How the steps of a certificate number the parts of a window: items and tests, leaves, or all of them, in preorder from 0.
use Rattle.std.specs.Prelude.{ℕ, suc, ◌+◌, ◌-◌, ◌&&◌, if◌then◌else◌, nat_eq, nat_lt, nat_le, Option, Some, None}
use Rattle.pc_window.specs.Tree.{Tree, Pending, Undecided, Exit, Stop_exit, Trap_exit, Front, Issued, Split, Unfinished, whole, tree_size}

-- how many leaves a tree has: stubs, ends and traps
abbrev pub leaf_count : Tree → ℕ
leaf_count (Pending tag origin item rest) = leaf_count rest
leaf_count (Undecided tag origin on on_yes on_no) = leaf_count on_yes + leaf_count on_no
leaf_count (Exit region tag homes) = 1
leaf_count Stop_exit = 1
leaf_count (Trap_exit kind line) = 1

-- its items, tests and leaves together
abbrev pub part_count : Tree → ℕ
part_count (Pending tag origin item rest) = suc (part_count rest)
part_count (Undecided tag origin on on_yes on_no) = suc (part_count on_yes + part_count on_no)
part_count (Exit region tag homes) = 1
part_count Stop_exit = 1
part_count (Trap_exit kind line) = 1

-- where two places below a test are on its yes and on its no side, of which the first has so many items and tests: the second place, counted
-- from the no side's root
abbrev pub place_on_no_side : (on_yes on_no size : ℕ) → Option ℕ
place_on_no_side on_yes on_no size = if (nat_lt 0 on_yes && nat_le on_yes size) && nat_lt size on_no then Some (on_no - 1 - size) else None

-- the same of a test of a front with these sides, where nothing on them is in the front
abbrev pub place_beyond : Front → Front → (on_yes on_no : ℕ) → Option ℕ
place_beyond (Unfinished p) (Unfinished q) one other = place_on_no_side one other (tree_size p)
place_beyond (Unfinished p) (Issued tag origin item rest) one other = None
place_beyond (Unfinished p) (Split tag origin on q q') one other = None
place_beyond (Issued tag origin item rest) q one other = None
place_beyond (Split tag origin on p p') q one other = None

-- the same where the test is that with a number
abbrev pub place_across : Front → (test on_yes on_no : ℕ) → Option ℕ
place_across (Issued tag origin item rest) test one other = if nat_eq test 0 then None else place_across rest (test - 1) (one - 1) (other - 1)
place_across (Split tag origin on p q) test one other =
    if nat_eq test 0 then place_beyond p q one other
    else if nat_lt (test - 1) (tree_size (whole p)) then place_across p (test - 1) (one - 1) (other - 1)
    else place_across q (test - 1 - tree_size (whole p)) (one - 1 - tree_size (whole p)) (other - 1 - tree_size (whole p))
place_across (Unfinished rest) test one other = None
