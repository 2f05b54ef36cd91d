-- Windows in memory, and the windows that they are.
use Rattle.std.proofs.Common.{◌≡◌, ℕ, List, Option, length, ◌≤◌, refl, sym, ◌∙◌, ap, arith}
use Rattle.std.specs.Prelude.{true, false}
use Rattle.pc_word.specs.declared.item.Limits.{Limits}
use Rattle.pc_window.specs.declared.tree.WindowTree.{WindowTree}
use Rattle.pc_window.specs.declared.tree.WindowTree.TheVariants as stored
use Rattle.pc_window.specs.declared.names.NameTable.{NameTable}
use Rattle.pc_word.specs.declared.item.Operand.{Operand}
use Rattle.pc_table.specs.Table.{Table, TableTree, region_tree}
use Rattle.pc_table.specs.TableKeeps.{units, most_region_nodes}
use Rattle.pc_table.specs.Loops.{innermost_loop}
use Rattle.pc_window.specs.Grafting.{Grafts, HasNames, TakesNames}
use Rattle.pc_window.specs.Tree.{Tree, Pending, Undecided, Front, Issued, Split, Unfinished, front_of, whole, tree_size}
use Rattle.pc_window.specs.WindowRun.{Window}
use Rattle.pc_window.specs.Opening.{Supply, Grafted, first_supply, first_home, opened, graft}
use Rattle.pc_window.specs.Steps.{window_of, opened_window, IsProper}
use Rattle.pc_word.specs.Ranges.{AreLimits}
use Rattle.pc_window.proofs.Proper.{opens_proper}
use Rattle.pc_window.specs.StoredWindow.{InNodes, NodesBehind, IsJustOpened, window_in, tree_in, front_in, supply_in, homes_in}

-- below an item or test that is a node of its own nothing is finished
pub below_unfinished : (tree : WindowTree) → InNodes false tree → front_in tree ≡ Unfinished (tree_in tree)
below_unfinished (stored.Step' tag origin item p rest) h = absurd h
below_unfinished (stored.Test' tag origin on p on_yes q on_no) h = absurd h
below_unfinished (stored.Node' p below) h = refl
below_unfinished (stored.Exit region tag homes) h = refl
below_unfinished stored.Stop h = refl
below_unfinished (stored.Trap kind line) h = refl

-- a tree whose nodes are single has single nodes behind its root
pub below_behind : (tree : WindowTree) → InNodes false tree → NodesBehind tree
below_behind (stored.Step' tag origin item p rest) h = absurd h
below_behind (stored.Test' tag origin on p on_yes q on_no) h = absurd h
below_behind (stored.Node' p below) h = h
below_behind (stored.Exit region tag homes) h = tt
below_behind stored.Stop h = tt
below_behind (stored.Trap kind line) h = tt

pub in_nodes_behind : (tree : WindowTree) → InNodes true tree → NodesBehind tree
in_nodes_behind (stored.Step' tag origin item p rest) h = below_behind rest h
in_nodes_behind (stored.Test' tag origin on p on_yes q on_no) h = (below_behind on_yes h.0, below_behind on_no h.1)
in_nodes_behind (stored.Node' p below) h = absurd h
in_nodes_behind (stored.Exit region tag homes) h = tt
in_nodes_behind stored.Stop h = tt
in_nodes_behind (stored.Trap kind line) h = tt

-- the front is the first item or test
first_front : (tree : WindowTree) → InNodes true tree → front_in tree ≡ front_of (tree_in tree)
first_front (stored.Step' tag origin item p rest) h = ap (λ (f : Front). Issued tag origin item f) (below_unfinished rest h)
first_front (stored.Test' tag origin on p on_yes q on_no) h = λ i. Split tag origin on (below_unfinished on_yes h.0 i) (below_unfinished on_no h.1 i)
first_front (stored.Node' p below) h = absurd h
first_front (stored.Exit region tag homes) h = refl
first_front stored.Stop h = refl
first_front (stored.Trap kind line) h = refl

-- a front as a window
abbrev with_front : Supply → Limits → Option ℕ → Front → Window
with_front names limits inside front =
    record { front = front; forms = names.forms; next = names.next; next_variable = names.next_variable; limits = limits; inside = inside }

-- a tree whose nodes are single is the window that its tree becomes
pub single_window : (tree : WindowTree) (names : NameTable) (limits : Limits) (inside : Option ℕ) (g : Grafted)
    → (let it : Grafted = record { tree = tree_in tree; names = supply_in names } in it) ≡ g → InNodes true tree
    → window_in (record { tree = tree; names = names; limits = limits; inside = inside }) ≡ window_of g.tree g.names limits inside
single_window tree names limits inside g is single =
    ap (with_front (supply_in names) limits inside) (first_front tree single)
    ∙ ap (λ (h : Grafted). window_of h.tree h.names limits inside) is

-- the whole of the front is the tree
pub whole_in : (tree : WindowTree) → whole (front_in tree) ≡ tree_in tree
whole_in (stored.Step' tag origin item p rest) = ap (λ (t : Tree). Pending tag origin item t) (whole_in rest)
whole_in (stored.Test' tag origin on p on_yes q on_no) = λ i. Undecided tag origin on (whole_in on_yes i) (whole_in on_no i)
whole_in (stored.Node' p below) = refl
whole_in (stored.Exit region tag homes) = refl
whole_in stored.Stop = refl
whole_in (stored.Trap kind line) = refl

pub whole_size : (tree : WindowTree) (n : ℕ) → n ≡ tree_size (tree_in tree) → n ≡ tree_size (whole (front_in tree))
whole_size tree n is = is ∙ ap tree_size (sym (whole_in tree))

pub ruleset sized = (whole_size)

-- ---- opening

module _ (t : TableTree) (few : units t ≤ most_region_nodes) where
  -- there is room for its names among the first
  pub first_room : (names : NameTable) → supply_in names ≡ first_supply → HasNames names t
  first_room names is =
      let n : length names.forms ≡ 96 = ap (λ (s : Supply). s.next) is in
      let v : names.next_variable ≡ 96 = ap (λ (s : Supply). s.next_variable) is in
      record { names = omega (arith, few); variables = omega (arith, few) }

  -- what it comes to is small
  pub just_opened : (first names : NameTable) (tree : WindowTree) (limits : Limits) (inside : Option ℕ)
      → supply_in first ≡ first_supply → TakesNames t first names → tree_size (tree_in tree) ≤ units t
      → IsJustOpened (record { tree = tree; names = names; limits = limits; inside = inside })
  just_opened first names tree limits inside is takes le =
      let n : length first.forms ≡ 96 = ap (λ (s : Supply). s.next) is in
      let v : first.next_variable ≡ 96 = ap (λ (s : Supply). s.next_variable) is in
      let more_names = takes.names in
      let more_variables = takes.variables in
      record { size = omega (arith, few, le); names = omega (arith, few, n, more_names); variables = omega (arith, few, v, more_variables) }

-- it comes to the opened window
pub opened_is : (table : Table) (number : ℕ) (from : TableTree) (first names : NameTable) (homes : List Operand) (tree : WindowTree) (limits : Limits) (inside : Option ℕ)
    → from ≡ region_tree table number → supply_in first ≡ first_supply → homes_in homes ≡ first_home → inside ≡ innermost_loop table number
    → Grafts table inside 0 from (supply_in first) (homes_in homes) (tree_in tree) (supply_in names) → InNodes true tree
    → window_in (record { tree = tree; names = names; limits = limits; inside = inside }) ≡ opened_window table limits number
opened_is table number from first names homes tree limits inside tree_is names_are homes_are loop_is grafts single =
    let g : Grafted = opened table (innermost_loop table number) number in
    single_window tree names limits inside g (grafts ∙ (λ i. graft table (loop_is i) 0 (tree_is i) (names_are i) (homes_are i))) single
    ∙ ap (λ (l : Option ℕ). window_of g.tree g.names limits l) loop_is

-- limits of the machine leave room for one item or test
pub opens_within : (table : Table) (limits : Limits) (region : ℕ) (w : Window) → AreLimits limits → w ≡ opened_window table limits region → IsProper w
opens_within table limits region w within is = opens_proper table limits region w (record { ops = within.ops.0; tests = within.tests.0; mem = within.mem.0 }) is
