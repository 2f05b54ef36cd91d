-- A window's form in which the choice of names, of form variables and of the first tag does not show.
use Rattle.std.specs.Prelude.{ℕ, zero, suc, ◌-◌, min, max, ℤ, pos, negsuc, Bool, if◌then◌else◌, nat_eq, List, [], ◌∷◌, ◌++◌, map, Option}
use Rattle.std.specs.Cmp.Lexicographic.{slice_cmp}
use Rattle.std.specs.Ordering.{int_cmp, is_lt}
use Rattle.pc_word.specs.declared.item.Item.{Item}
use Rattle.pc_word.specs.declared.item.Limits.{Limits}
use Rattle.pc_word.specs.Items.{dest_of}
use Rattle.pc_linear.specs.declared.term.Term.{Term}
use Rattle.pc_linear.specs.Form.{Form, factor_of}
use Rattle.pc_window.specs.declared.home.Home.{Home}
use Rattle.pc_window.specs.Tree.{Tree, Pending, Undecided, Exit, Stop_exit, Trap_exit, Front, Issued, Split, Unfinished, whole}
use Rattle.pc_window.specs.Names.{named, definitions_of, parameters_of}
use Rattle.pc_window.specs.WindowRun.{Window}
use Rattle.pc_canon.specs.Pairs.{Pair}
use Rattle.pc_canon.specs.Shift.{has_terms}
use Rattle.pc_word.specs.Naming.{map_name, map_operands, with_dest}
use Rattle.pc_window.specs.Rename.{map_homes}

-- ---- names

-- the place at which a name first stands in a list, or the list's length
abbrev pub place_of : List ℕ → ℕ → ℕ
place_of [] x = 0
place_of (y ∷ ys) x = if nat_eq y x then 0 else suc (place_of ys x)

-- an item with places for the names that it reads, and 0 for the one that it writes
abbrev pub placed_item : (ℕ → ℕ) → Item → Item
placed_item place item = with_dest 0 (map_operands (map_name place) item)

-- homes with places for the names that they read
abbrev pub placed_homes : (ℕ → ℕ) → List Home → List Home
placed_homes place homes = map_homes (map_name place) homes

-- ---- trees

-- a tree with tags counted from the first, and names as their places in a list: the last that was defined stands in front
abbrev pub canonical_tree : ℕ → List ℕ → Tree → Tree
canonical_tree first names (Pending tag origin item rest) =
    Pending (tag - first) origin (placed_item (place_of names) item) (canonical_tree first (named (dest_of item) names) rest)
canonical_tree first names (Undecided tag origin on on_yes on_no) =
    Undecided (tag - first) origin (map_name (place_of names) on) (canonical_tree first names on_yes) (canonical_tree first names on_no)
canonical_tree first names (Exit region tag homes) = Exit region (tag - first) (placed_homes (place_of names) homes)
canonical_tree first names Stop_exit = Stop_exit
canonical_tree first names (Trap_exit kind line) = Trap_exit kind line

-- the same of a front with what stands behind it
abbrev pub canonical_front : ℕ → List ℕ → Front → Front
canonical_front first names (Issued tag origin item rest) =
    Issued (tag - first) origin (placed_item (place_of names) item) (canonical_front first (named (dest_of item) names) rest)
canonical_front first names (Split tag origin on on_yes on_no) =
    Split (tag - first) origin (map_name (place_of names) on) (canonical_front first names on_yes) (canonical_front first names on_no)
canonical_front first names (Unfinished rest) = Unfinished (canonical_tree first names rest)

-- the tags of items, tests and stubs
abbrev pub tags_of : Tree → List ℕ
tags_of (Pending tag origin item rest) = tag ∷ tags_of rest
tags_of (Undecided tag origin on on_yes on_no) = tag ∷ (tags_of on_yes ++ tags_of on_no)
tags_of (Exit region tag homes) = tag ∷ []
tags_of Stop_exit = []
tags_of (Trap_exit kind line) = []

-- the least of a number and others
abbrev pub least_of : ℕ → List ℕ → ℕ
least_of least [] = least
least_of least (tag ∷ tags) = least_of (min least tag) tags

-- the first tag: the least, or 0 where there is none
abbrev pub first_tag : List ℕ → ℕ
first_tag [] = 0
first_tag (tag ∷ tags) = least_of tag tags

-- ---- forms

-- a form's constant, and whether it has terms
pub record Constant : Type 0 where
  pub constant : ℤ
  pub terms : Bool

-- what shows of a form by itself
abbrev pub constant_in : Form → Constant
constant_in form = record { constant = form.constant; terms = has_terms form.terms }

-- the forms of the parameters, in the order of first use
abbrev pub forms_of_parameters : Window → List Form
forms_of_parameters w = map w.forms (parameters_of (whole w.front))

-- the forms of the names that are defined, in preorder
abbrev pub forms_of_definitions : Window → List Form
forms_of_definitions w = map w.forms (definitions_of (whole w.front))

-- a place and a factor in front of others, where the factor is not 0
abbrev pub with_factor : ℕ → ℤ → List ℤ → List ℤ
with_factor place (pos zero) more = more
with_factor place (pos (suc n)) more = pos place ∷ pos (suc n) ∷ more
with_factor place (negsuc n) more = pos place ∷ negsuc n ∷ more

-- the column of a form variable in forms at places from a number on: the place of each form in which it has a factor, and that factor
abbrev pub column : ℕ → List Form → ℕ → List ℤ
column place [] x = []
column place (form ∷ forms) x = with_factor place (factor_of form.terms x) (column (suc place) forms x)

-- whether a column stands before another: the greater comes first
abbrev pub stands_before : List ℤ → List ℤ → Bool
stands_before one other = is_lt (slice_cmp int_cmp other one)

-- columns in order, with one more
abbrev pub with_column : List ℤ → List (List ℤ) → List (List ℤ)
with_column one [] = one ∷ []
with_column one (other ∷ others) = if stands_before other one then other ∷ with_column one others else one ∷ other ∷ others

-- the same, unless it is empty
abbrev pub with_occurring : List ℤ → List (List ℤ) → List (List ℤ)
with_occurring [] columns = columns
with_occurring (z ∷ zs) columns = with_column (z ∷ zs) columns

-- the columns of the form variables below a number that occur, in order
abbrev pub columns_below : (ℕ → List ℤ) → ℕ → List (List ℤ)
columns_below column_of zero = []
columns_below column_of (suc x) = with_occurring (column_of x) (columns_below column_of x)

-- a number above all variables of terms
abbrev pub above_terms : List Term → ℕ
above_terms [] = 0
above_terms (term ∷ terms) = max (suc term.variable) (above_terms terms)

-- a number above all variables of forms
abbrev pub above_forms : List Form → ℕ
above_forms [] = 0
above_forms (form ∷ forms) = max (above_terms form.terms) (above_forms forms)

-- the columns of all form variables of some forms, in order: which variable has which column does not show
abbrev pub columns_of : List Form → List (List ℤ)
columns_of forms = columns_below (column 0 forms) (above_forms forms)

-- ---- windows

-- what two windows have in common that are equal up to a shift
pub record Canonical : Type 0 where
  pub front : Front
  pub parameters : List Constant
  pub definitions : List Constant
  pub columns : List (List ℤ)
  pub limits : Limits
  pub inside : Option ℕ

-- the canonical form of a window
abbrev pub canonical : Window → Canonical
canonical w = record {
  front = canonical_front (first_tag (tags_of (whole w.front))) (parameters_of (whole w.front)) w.front;
  parameters = map constant_in (forms_of_parameters w);
  definitions = map constant_in (forms_of_definitions w);
  columns = columns_of (forms_of_parameters w ++ forms_of_definitions w);
  limits = w.limits;
  inside = w.inside;
}

-- the names at the same places of two lists
abbrev pub side_by_side : List ℕ → List ℕ → List Pair
side_by_side (x ∷ xs) (y ∷ ys) = (record { one = x; other = y }) ∷ side_by_side xs ys
side_by_side _ _ = []

-- the parameters of two windows, each with the one at the same place in the order of first use
abbrev pub parameter_pairs : Window → Window → List Pair
parameter_pairs w v = side_by_side (parameters_of (whole w.front)) (parameters_of (whole v.front))
