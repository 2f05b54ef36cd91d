-- How a region's tree comes into a window, constructor by constructor.
use Rattle.std.proofs.Common.{◌≡◌, ℕ, Option, sym, ◌∙◌, ap}
use Rattle.pc_word.specs.declared.item.Item.{Item}
use Rattle.pc_word.specs.declared.item.Operand.{Operand}
use Rattle.pc_word.specs.declared.item.Operand.TheVariants.{Name}
use Rattle.pc_linear.specs.Form.{Form}
use Rattle.pc_table.specs.Table.{TableTree, Does, Asks, Table}
use Rattle.pc_window.specs.Tree.{Tree, Pending, Undecided}
use Rattle.pc_window.specs.Opening.{Supply, Grafted, Brought, Moves_home, Gets_name, Stays_plain, brought, changed, with_name, at_home, below_item, below_test, graft_item, graft}
use Rattle.std.specs.Prelude.{true, false}
use Rattle.pc_window.specs.declared.tree.WindowTree.{WindowTree}
use Rattle.pc_window.specs.declared.tree.WindowTree.TheVariants as stored
use Rattle.pc_window.specs.StoredWindow.{InNodes}
use Rattle.pc_window.specs.StoredWindow.{is_leaf}
use Rattle.pc_window.specs.Grafting.{Grafts}

module _ (table : Table) (loop : Option ℕ) (tag origin : ℕ) (names : Supply) (homes : ℕ → Operand) where
  -- an item that moves a home
  pub moves_home : (item : Item) (rest : TableTree) (variable : ℕ) (from : Operand) (tree : Tree) (later : Supply) → brought names homes item ≡ Moves_home variable from
      → Grafts table loop tag rest names (changed homes variable from) tree later → Grafts table loop tag (Does origin item rest) names homes tree later
  moves_home item rest variable from tree later is h =
      h ∙ ap (λ (b : Brought). graft_item tag origin b names homes (graft table loop tag rest)) (sym is)

  -- an item that gets a name
  pub gets_name : (item : Item) (rest : TableTree) (variable : ℕ) (given : Item) (form : Option Form) (tree : Tree) (later : Supply) → brought names homes item ≡ Gets_name variable given form
      → Grafts table loop tag rest (with_name names form) (changed homes variable (Name names.next)) tree later
      → Grafts table loop tag (Does origin item rest) names homes (Pending tag origin given tree) later
  gets_name item rest variable given form tree later is h =
      ap (λ (g : Grafted). below_item tag origin given g) h ∙ ap (λ (b : Brought). graft_item tag origin b names homes (graft table loop tag rest)) (sym is)

  -- an item that writes no variable
  pub stays_plain : (item : Item) (rest : TableTree) (given : Item) (tree : Tree) (later : Supply) → brought names homes item ≡ Stays_plain given
      → Grafts table loop tag rest names homes tree later → Grafts table loop tag (Does origin item rest) names homes (Pending tag origin given tree) later
  stays_plain item rest given tree later is h =
      ap (λ (g : Grafted). below_item tag origin given g) h ∙ ap (λ (b : Brought). graft_item tag origin b names homes (graft table loop tag rest)) (sym is)

  -- a test
  pub asks : (on : Operand) (on_yes on_no : TableTree) (yes_tree no_tree : Tree) (mid later : Supply)
      → Grafts table loop tag on_yes names homes yes_tree mid → Grafts table loop tag on_no mid homes no_tree later
      → Grafts table loop tag (Asks origin on on_yes on_no) names homes (Undecided tag origin (at_home homes on) yes_tree no_tree) later
  asks on on_yes on_no yes_tree no_tree mid later p q =
      ap (λ (g : Grafted). below_test tag origin (at_home homes on) (record { tree = yes_tree; names = mid }) (λ k. g)) q
      ∙ ap (λ (g : Grafted). below_test tag origin (at_home homes on) g (λ k. graft table loop tag on_no k homes)) p

pub ruleset grafts = (moves_home, gets_name, stays_plain, asks)

-- ---- nodes

-- a leaf of a node stands below an item or test as it is
pub leaf_below : (tree : WindowTree) → is_leaf tree ≡ true → InNodes true tree → InNodes false tree
leaf_below (stored.Step' tag origin item p rest) e h = absurd (cc)
leaf_below (stored.Test' tag origin on p on_yes q on_no) e h = absurd (cc)
leaf_below (stored.Node' p below) e h = absurd h
leaf_below (stored.Exit region tag homes) e h = tt
leaf_below stored.Stop e h = tt
leaf_below (stored.Trap kind line) e h = tt

pub ruleset nodes = (leaf_below)
