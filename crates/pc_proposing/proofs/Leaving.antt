-- Windows that are left behind the front of an arranged window, and copies of them.
use Rattle.std.proofs.Common.{◌≡◌, ℕ, zero, suc, ◌≤◌, Bool, true, List, [], ◌∷◌, ◌++◌, Option, Some, length, refl, sym, subst, arith}
use Rattle.std.specs.Prelude.{slice_get}
use Rattle.std.specs.List.{AllByRecursion}
use Rattle.pc_word.specs.declared.item.Limits.{Limits}
use Rattle.pc_word.specs.Ranges.{AreLimits}
use Rattle.pc_table.specs.Table.{Table}
use Rattle.pc_window.specs.declared.tree.WindowTree.{WindowTree}
use Rattle.pc_window.specs.declared.tree.WindowTree.TheVariants as stored
use Rattle.pc_window.specs.declared.names.NameTable.{NameTable}
use Rattle.pc_window.specs.declared.window.Window.{Window as StoredWindow}
use Rattle.pc_window.specs.Tree.{Tree, Front, whole, tree_size}
use Rattle.pc_window.specs.Names.{uses, and_dest, Scoped}
use Rattle.pc_window.specs.Opening.{Supply, TreeBelow, FormsBelow}
use Rattle.pc_window.specs.WindowRun.{Window}
use Rattle.pc_window.specs.Steps.{Positive, IsProper}
use Rattle.pc_window.specs.StoredWindow.{tree_in, front_in, supply_in, window_in, InNodes, NodesBehind}
use Rattle.pc_window.proofs.Proper.{becomes_proper}
use Rattle.pc_window.proofs.WindowsStored.{whole_in, single_window}
use Rattle.pc_arranging.specs.CanArrange.{CanArrange, IsArrangedIn}
use Rattle.pc_settling.specs.Stored.{most_size, IsLeft, IsBegun}
use Rattle.pc_proposing.specs.models.Leaving.{as_window, LeavesLeft}

-- limits of the machine leave room
pub room_of : (limits : Limits) → AreLimits limits → Positive limits
room_of limits within = record { ops = within.ops.0; tests = within.tests.0; mem = within.mem.0 }

module _ (names : NameTable) (limits : Limits) (inside : Option ℕ) (within : AreLimits limits) (forms : FormsBelow (supply_in names)) where
  -- a tree of single nodes
  one_left : (tree : WindowTree) (known : ℕ → Bool) → InNodes true tree → TreeBelow (length names.forms) (tree_in tree) → Scoped known (tree_in tree)
      → tree_size (tree_in tree) ≤ most_size → IsLeft (as_window names limits inside tree)
  one_left tree known nodes below scoped size = record {
    proper = subst IsProper (sym (single_window tree names limits inside (record { tree = tree_in tree; names = supply_in names }) refl nodes))
        (becomes_proper (tree_in tree) (supply_in names) limits inside known below forms (room_of limits within) scoped);
    nodes = nodes;
    size = size;
  }

  leaves_left : (tree : WindowTree) (known : ℕ → Bool) → NodesBehind tree → TreeBelow (length names.forms) (tree_in tree) → Scoped known (tree_in tree)
      → tree_size (tree_in tree) ≤ most_size → LeavesLeft names limits inside tree
  leaves_left (stored.Step' tag origin item p rest) known nodes below scoped size =
      leaves_left rest (and_dest known item) nodes below.1 scoped.2 (omega (arith, size))
  leaves_left (stored.Test' tag origin on p on_yes q on_no) known nodes below scoped size =
      (leaves_left on_yes known nodes.0 below.1 scoped.1 (omega (arith, size)), leaves_left on_no known nodes.1 below.2 scoped.2 (omega (arith, size)))
  leaves_left (stored.Node' p rest) known nodes below scoped size = one_left rest known nodes below scoped size
  leaves_left (stored.Exit region tag homes) known nodes below scoped size = one_left (stored.Exit region tag homes) known tt below scoped size
  leaves_left stored.Stop known nodes below scoped size = one_left stored.Stop known tt below scoped size
  leaves_left (stored.Trap kind line) known nodes below scoped size = one_left (stored.Trap kind line) known tt below scoped size

-- what is left of a window that steps have arranged
pub arranged_left : (table : Table) (w : StoredWindow) (limits : Limits) → IsArrangedIn table w → AreLimits limits
    → LeavesLeft w.names limits w.inside w.tree
arranged_left table w limits arranged within =
    let proper = arranged.can.proper in
    let small = arranged.can.small.size in
    let size : tree_size (tree_in w.tree) ≤ most_size = subst (λ (t : Tree). tree_size t ≤ most_size) (whole_in w.tree) small in
    leaves_left w.names limits w.inside within proper.forms_below w.tree (uses (whole (window_in w).front)) arranged.nodes
    (subst (λ (t : Tree). TreeBelow (length w.names.forms) t) (whole_in w.tree) proper.names_below)
    (subst (λ (t : Tree). Scoped (uses (whole (window_in w).front)) t) (whole_in w.tree) proper.window.scoped)
    size

-- a window with these names, under these limits, of this loop, over a front
abbrev with_front : Supply → Limits → Option ℕ → Front → Window
with_front names limits inside front = record {
  front = front;
  forms = names.forms;
  next = names.next;
  next_variable = names.next_variable;
  limits = limits;
  inside = inside;
}

-- a copy of what is left
pub copy_left : (tree copy : WindowTree) (names : NameTable) (limits : Limits) (inside : Option ℕ) → tree_in copy ≡ tree_in tree
    → front_in copy ≡ front_in tree → ((at_root : Bool) → InNodes at_root tree → InNodes at_root copy)
    → IsLeft (as_window names limits inside tree) → IsLeft (as_window names limits inside copy)
copy_left tree copy names limits inside same front nodes left = record {
  proper = subst (λ (f : Front). IsProper (with_front (supply_in names) limits inside f)) (sym front) left.proper;
  nodes = nodes true left.nodes;
  size = subst (λ (t : Tree). tree_size t ≤ most_size) (sym same) left.size;
}

-- with what an entry begins may be arranged
pub begun_arranges : (table : Table) (w : StoredWindow) → IsBegun table w → CanArrange table (window_in w)
begun_arranges table w begun = record {
  proper = begun.left.proper;
  small = record {
    size = subst (λ (t : Tree). tree_size t ≤ most_size) (sym (whole_in w.tree)) begun.left.size;
    names = begun.names;
    variables = begun.variables;
  };
  parts = begun.parts;
}

pub ruleset copying = (copy_left)

some_one : {A : Type 0} (x y : A) → Some x ≡ Some y → x ≡ y
some_one x y e = cc

-- an element of a list of which each is left to do
pub left_at : (lefts : List StoredWindow) (place : ℕ) (left : StoredWindow) → AllByRecursion IsLeft lefts → slice_get lefts place ≡ Some left → IsLeft left
left_at [] place left all is = absurd (cc)
left_at (one ∷ lefts) zero left all is = subst IsLeft (some_one one left is) all.0
left_at (one ∷ lefts) (suc place) left all is = left_at lefts place left all.1 is

-- one more
pub one_more : (lefts more : List StoredWindow) (left : StoredWindow) → more ≡ lefts ++ left ∷ [] → AllByRecursion IsLeft lefts → IsLeft left → AllByRecursion IsLeft more
one_more lefts more left is all one = subst (AllByRecursion IsLeft) (sym is) (behind lefts all)
  where
    behind : (others : List StoredWindow) → AllByRecursion IsLeft others → AllByRecursion IsLeft (others ++ left ∷ [])
    behind [] all = (one, tt)
    behind (other ∷ others) all = (all.0, behind others all.1)

pub ruleset standing = (left_at)

pub ruleset keeping = (one_more)
