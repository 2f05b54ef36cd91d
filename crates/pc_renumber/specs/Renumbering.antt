-- Windows whose names and form variables are numbered anew, without gaps.
use Rattle.std.specs.Prelude.{◌≡◌, ℕ, zero, suc, ◌+◌, Bool, if◌then◌else◌, nat_eq, List, length, map}
use Rattle.std.specs.List.{list_any}
use Rattle.pc_linear.specs.declared.term.Term.{Term}
use Rattle.pc_linear.specs.Form.{Form, in_variables}
use Rattle.pc_window.specs.Tree.{Tree, Pending, Undecided, Exit, Stop_exit, Trap_exit, whole}
use Rattle.pc_window.specs.Opening.{Supply}
use Rattle.pc_window.specs.Rebasing.{all_names}
use Rattle.pc_window.specs.Steps.{window_of}
use Rattle.pc_window.specs.StoredWindow.{forms_in}
use Rattle.pc_window.specs.WindowRun.{Window}
use Rattle.pc_canon.specs.Canonical.{place_of, placed_homes}
use Rattle.pc_word.specs.Naming.{map_name, map_names}

-- ---- names

-- a tree with the new names; all else stays as it is
abbrev pub renumbered_tree : (ℕ → ℕ) → Tree → Tree
renumbered_tree number (Pending tag origin item rest) = Pending tag origin (map_names number item) (renumbered_tree number rest)
renumbered_tree number (Undecided tag origin on on_yes on_no) =
    Undecided tag origin (map_name number on) (renumbered_tree number on_yes) (renumbered_tree number on_no)
renumbered_tree number (Exit region tag homes) = Exit region tag (placed_homes number homes)
renumbered_tree number Stop_exit = Stop_exit
renumbered_tree number (Trap_exit kind line) = Trap_exit kind line

-- ---- form variables

-- whether a form variable stands in terms
abbrev pub stands_in : List Term → ℕ → Bool
stands_in terms x = list_any (λ term. nat_eq x term.variable) terms

-- whether it stands in one of some forms
abbrev pub stands_in_any : List Form → ℕ → Bool
stands_in_any forms x = list_any (λ form. stands_in form.terms x) forms

-- how many numbers below one are among some
abbrev pub how_many_below : (ℕ → Bool) → ℕ → ℕ
how_many_below among zero = 0
how_many_below among (suc x) = (if among x then 1 else 0) + how_many_below among x

-- the new number of a variable: how many smaller ones stand in these forms
abbrev pub new_variable : List Form → ℕ → ℕ
new_variable forms = how_many_below (stands_in_any forms)

-- ---- windows

-- the forms of the names of a window, parameters first
abbrev pub forms_of_names : Window → List Form
forms_of_names w = map w.forms (all_names (whole w.front))

-- the names of a list are the first ones, with these forms, and the variables below a number are renumbered
abbrev pub renumbered_supply : List Form → ℕ → Supply
renumbered_supply forms next_variable = record {
  forms = forms_in (map (in_variables (new_variable forms)) forms);
  next = length forms;
  next_variable = new_variable forms next_variable;
}

-- a window with its names and form variables numbered anew: a name by its place among all names, parameters first, a variable by its
-- order; its front is the first item or test, as of every window that was brought on
unfoldable pub renumbered : Window → Window
renumbered w =
    window_of (renumbered_tree (place_of (all_names (whole w.front))) (whole w.front)) (renumbered_supply (forms_of_names w) w.next_variable)
    w.limits w.inside

-- a window renumbered is another
abbrev pub Renumbers : Window → Window → Type 0
Renumbers w v = v ≡ renumbered w
