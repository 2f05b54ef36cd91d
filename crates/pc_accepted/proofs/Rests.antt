-- What is left at the leaves of a front is proper.
use Rattle.std.proofs.Common.{◌≡◌, inl, inr, ℕ, suc, Bool, List, ◌∷◌, Some, refl, arith}
use Rattle.std.specs.Prelude.{Contains, slice_get}
use Rattle.std.proofs.lemmas.List.Elements.{Contains-append_cases}
use Rattle.std.proofs.lemmas.Option.{slice_get_within, get_or_from_slice_get}
use Rattle.pc_word.specs.declared.item.Limits.{Limits}
use Rattle.pc_word.specs.Row.{leaves_of}
use Rattle.pc_table.specs.Table.{Table}
use Rattle.pc_window.specs.Tree.{Tree, Front, Issued, Split, Unfinished, whole}
use Rattle.pc_window.specs.Names.{uses, and_dest, Scoped}
use Rattle.pc_window.specs.Opening.{TreeBelow, FormsBelow}
use Rattle.pc_window.specs.WindowRun.{Window, supply_of}
use Rattle.pc_window.specs.Steps.{window_of, with_tree, front_row, Positive, IsProper}
use Rattle.pc_window.proofs.Proper.{becomes_proper}
use Rattle.pc_certified.specs.Changes.{OneChange, regroups}
use Rattle.pc_certified.proofs.Listed.{only}
use Rattle.pc_accepted.specs.Accepted.{with_limits}

-- what stands at a place of a list is in it
pub contains_at : {X : Type 0} (xs : List X) (place : ℕ) (x : X) → slice_get xs place ≡ Some x → Contains xs x
contains_at xs place x is = (place, slice_get_within xs place x is, get_or_from_slice_get xs place x x is)

-- the first element, and others
pub contains_first : {X : Type 0} (x : X) (xs : List X) → Contains (x ∷ xs) x
contains_first x xs = (0, omega arith, refl)

pub contains_later : {X : Type 0} (x : X) (xs : List X) (y : X) → Contains xs y → Contains (x ∷ xs) y
contains_later x xs y (place, below, is) = (suc place, omega (arith, below), is)

module _ (w : Window) (limits : Limits) (room : Positive limits) (forms_below : FormsBelow (supply_of w)) where
  rest_proper : (front : Front) (known : ℕ → Bool) → TreeBelow w.next (whole front) → Scoped known (whole front) → (rest : Tree)
      → Contains (leaves_of (front_row (λ tree. tree) front)) rest → IsProper (window_of rest (supply_of w) limits w.inside)
  rest_proper (Issued tag origin item front) known below scoped rest is = rest_proper front (and_dest known item) below.1 scoped.2 rest is
  rest_proper (Split tag origin on p q) known below scoped rest is =
      elim (Contains-append_cases (leaves_of (front_row (λ tree. tree) p)) (leaves_of (front_row (λ tree. tree) q)) rest is) [
        | inl there ↦ rest_proper p known below.1 scoped.1 rest there
        | inr there ↦ rest_proper q known below.2 scoped.2 rest there
      ]
  rest_proper (Unfinished tree) known below scoped rest is =
      only (λ (t : Tree). IsProper (window_of t (supply_of w) limits w.inside)) tree (becomes_proper tree (supply_of w) limits w.inside known below forms_below room scoped) rest is

-- what is left of a proper window is proper, under any limits with room
pub left_proper : (w : Window) (limits : Limits) → Positive limits → IsProper w → (rest : Tree) → Contains (leaves_of (front_row (λ tree. tree) w.front)) rest
    → IsProper (with_tree (with_limits limits w) rest)
left_proper w limits room proper rest is =
    rest_proper w limits room proper.forms_below w.front (uses (whole w.front)) proper.names_below proper.window.scoped rest is

-- to change its limits is a change of it
pub limits_change : (table : Table) (w : Window) (limits : Limits) (rest : Tree) → IsProper (with_tree (with_limits limits w) rest)
    → OneChange table (with_tree w rest) (with_tree (with_limits limits w) rest)
limits_change table w limits rest proper = regroups (record { tree = refl; forms = refl; proper = proper })
