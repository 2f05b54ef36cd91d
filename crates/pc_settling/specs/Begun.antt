-- How the window of a certificate's entry begins: from what is left at a leaf, or from the region of a stub that is all that is left.
use Rattle.std.specs.Prelude.{◌≡◌, ℕ, suc, zero, ◌^◌, Bool, true, false, ◌&&◌, if◌then◌else◌, nat_lt, nat_le, nat_eq, List, [], ◌∷◌, ◌++◌, length, Option, Some, None}
use Rattle.std.specs.List.{flat_map}
use Rattle.pc_word.specs.declared.item.Limits.{Limits}
use Rattle.pc_word.specs.Items.{array_of}
use Rattle.pc_cert.specs.declared.certificate.Opening.{Opening}
use Rattle.pc_table.specs.Table.{Table, region_live}
use Rattle.pc_window.specs.declared.home.Home.{Home}
use Rattle.pc_window.specs.Tree.{Tree, Pending, Undecided, Exit, Stop_exit, Trap_exit, whole, home_of}
use Rattle.pc_window.specs.Opening.{first_new}
use Rattle.pc_window.specs.WindowRun.{Window}
use Rattle.pc_window.specs.Steps.{opened_window, UnwindsTo, Tidies}
use Rattle.pc_certified.specs.Facts.{Fact}
use Rattle.pc_settling.specs.Remaining.{Remaining, sources_of, have_value_of}

-- ---- in the region of a stub

-- the numbers below one, in order
abbrev pub numbers_below : ℕ → List ℕ
numbers_below zero = []
numbers_below (suc n) = numbers_below n ++ n ∷ []

-- in a region that is entered with these homes, what had the value of a variable's home has the variable's; a variable without a home
-- holds 0
abbrev pub facts_in_region : List Home → List Fact → List Fact
facts_in_region homes facts = flat_map (λ variable. have_value_of variable (sources_of (home_of homes variable) facts)) (numbers_below first_new)

-- the region of a stub, opened, where these facts held
abbrev pub in_region : Table → Limits → (region : ℕ) → List Home → List Fact → Remaining
in_region table limits region homes facts = record { window = opened_window table limits region; facts = facts_in_region homes facts }

-- whether a tree is a stub alone
abbrev pub is_stub : Tree → Bool
is_stub (Exit region tag homes) = true
is_stub tree = false

-- a window that is this tree, where a stub alone is taken as its region, again as long as it is a stub alone, at most so many times;
-- none where it then is one still, or a region is not there
abbrev pub entered : Table → Limits → Remaining → Tree → (most : ℕ) → Option Remaining
entered table limits left (Exit region tag homes) zero = None
entered table limits left (Exit region tag homes) (suc most) =
    if nat_lt region (length table.regions)
    then entered table limits (in_region table limits region homes left.facts) (whole (opened_window table limits region).front) most
    else None
entered table limits left tree most = Some left

-- so where this is asked for: with at most as many regions as there are
abbrev pub entered_if : Table → Limits → (enters : Bool) → Remaining → Option Remaining
entered_if table limits true left = entered table limits left (whole left.window.front) (length table.regions)
entered_if table limits false left = Some left

-- ---- room

-- the greatest number of names, form variables and tags that a window may have before it is unwound
abbrev pub most_number : ℕ
most_number = 2 ^ 29

-- whether an item's array, if it has one, is there
abbrev pub has_array : Table → Option ℕ → Bool
has_array table None = true
has_array table (Some array) = nat_lt array (length table.arrays)

-- whether homes are of these variables, in their order
abbrev pub are_homes_of : List ℕ → List Home → Bool
are_homes_of [] [] = true
are_homes_of (variable ∷ variables) (home ∷ homes) = nat_eq home.variable variable && are_homes_of variables homes
are_homes_of _ _ = false

-- whether what a tree names is there in a table, and no tag is too great
abbrev pub parts_fit : Table → Tree → Bool
parts_fit table (Pending tag origin item rest) = nat_le tag most_number && has_array table (array_of item) && parts_fit table rest
parts_fit table (Undecided tag origin on on_yes on_no) = nat_le tag most_number && parts_fit table on_yes && parts_fit table on_no
parts_fit table (Exit region tag homes) =
    nat_le tag most_number && nat_lt region (length table.regions) && are_homes_of (region_live table region) homes
parts_fit table Stop_exit = true
parts_fit table (Trap_exit kind line) = true

-- whether a window may be unwound: there is room for names and form variables, what its tree names is there, and no tag is too great
abbrev pub has_room : Table → Window → Bool
has_room table w = nat_le w.next most_number && nat_le w.next_variable most_number && parts_fit table (whole w.front)

-- ---- the beginning

-- a window with this loop
abbrev pub with_loop : Option ℕ → Window → Window
with_loop loop w =
    record { front = w.front; forms = w.forms; next = w.next; next_variable = w.next_variable; limits = w.limits; inside = loop }

-- what is left, with this loop, where there is room
abbrev pub given_loop : Table → Option ℕ → Option Remaining → Option Remaining
given_loop table loop None = None
given_loop table loop (Some left) =
    if has_room table left.window then Some (record { window = with_loop loop left.window; facts = left.facts }) else None

-- what an entry with this opening begins with, before it is unwound
abbrev pub before_unwinding : Table → Limits → Opening → Remaining → Option Remaining
before_unwinding table limits opening left = given_loop table opening.inside (entered_if table limits opening.enters left)

-- a window is unwound to a number of iterations, and tidied; it stays where the number is 0
abbrev pub Widens : Table → (number : ℕ) → Window → Window → Type 0
Widens table zero w v = v ≡ w
Widens table (suc number) w v = (unwound : Window) × UnwindsTo table (suc number) w unwound × Tidies unwound v

-- what an entry begins with: a window, the facts that hold there, and whether a region was entered on the way
pub record Begun : Type 0 where
  pub window : Window
  pub facts : List Fact
  pub entered : Bool

-- an entry begins with this
pub record BeginsWith (table : Table) (limits : Limits) (opening : Opening) (left : Remaining) (begun : Begun) : Type 0 where
  pub before : Remaining
  pub is_before : before_unwinding table limits opening left ≡ Some before
  pub widens : Widens table opening.window before.window begun.window
  pub facts : begun.facts ≡ before.facts
  pub entered : begun.entered ≡ (opening.enters && is_stub (whole left.window.front))

-- with what an entry begins, if it does: it does not where entering never ends, where a region, an array or a home is not as the table has
-- it, or where there is no room
abbrev pub Begins : Table → Limits → Opening → Remaining → Option Begun → Type 0
Begins table limits opening left None = before_unwinding table limits opening left ≡ None
Begins table limits opening left (Some begun) = BeginsWith table limits opening left begun
