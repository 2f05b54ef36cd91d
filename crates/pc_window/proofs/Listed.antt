-- A list of names without one twice has each name where it stands first.
use Rattle.std.proofs.Common.{◌≡◌, ℕ, zero, suc, ◌<◌, List, [], ◌∷◌, ◌++◌, Option, Some, length, refl, sym, ◌∙◌, ap, subst, arith}
use Rattle.std.specs.Prelude.{Bool, true, false, ◌||◌, if◌then◌else◌, nat_eq, replicate}
use Rattle.std.specs.List.{AllByRecursion}
use Rattle.pc_word.specs.declared.item.Item.{Item}
use Rattle.pc_word.specs.declared.item.Item.TheVariants.{Bin, Copy, Load, Store, Print, Read, More}
use Rattle.pc_word.specs.declared.item.Operand.{Operand}
use Rattle.pc_word.specs.declared.item.Operand.TheVariants.{Name, Lit}
use Rattle.pc_word.specs.Items.{dest_of}
use Rattle.pc_word.specs.Commit.{writes}
use Rattle.pc_word.proofs.Lists.{all_both}
use Rattle.pc_window.specs.declared.home.Home.{Home}
use Rattle.pc_window.specs.Tree.{Tree, Pending, Undecided, Exit, Stop_exit, Trap_exit}
use Rattle.pc_window.specs.Names.{name_in, names_read, names_in_homes, without_name, free_uses, first_uses, parameters_of, named, definitions_of}
use Rattle.pc_window.specs.Opening.{OperandBelow, ItemBelow, StubBelow, TreeBelow}
use Rattle.pc_window.specs.Rebasing.{is_in, all_names}
use Rattle.pc_window.specs.models.Listing.{is_marked, unmarked, and_names}

-- ---- or

pub or_false : (a : Bool) → (a || false) ≡ a
or_false true = refl
or_false false = refl

pub or_true : (a : Bool) → (a || true) ≡ true
or_true true = refl
or_true false = refl

joined : (a b c : Bool) → (a || (b || c)) ≡ ((a || b) || c)
joined true b c = refl
joined false b c = refl

pub flipped : (x y : ℕ) → nat_eq x y ≡ nat_eq y x
flipped x y = by (nat_eq x y) refl
  where
    by : (b : Bool) → nat_eq x y ≡ b → b ≡ nat_eq y x
    by true e = grind arith
    by false e = grind arith

-- ---- the names that are not in a list

abbrev others : List ℕ → List ℕ → List ℕ
others found [] = []
others found (x ∷ xs) = if is_in x found then others found xs else x ∷ others found xs

-- in a list with one name more
pub in_more : (y x : ℕ) (found : List ℕ) → is_in y (found ++ x ∷ []) ≡ (is_in y found || nat_eq y x)
in_more y x [] = or_false (nat_eq y x)
in_more y x (z ∷ found) = ap (λ (b : Bool). nat_eq y z || b) (in_more y x found) ∙ joined (nat_eq y z) (is_in y found) (nat_eq y x)

-- with one name more, that name is left out besides
others-more : (found : List ℕ) (x : ℕ) (ys : List ℕ) → others (found ++ x ∷ []) ys ≡ others found (without_name (Some x) ys)
others-more found x [] = refl
others-more found x (y ∷ ys) = by (nat_eq x y) refl (others-more found x ys)
  where
    by : (b : Bool) → nat_eq x y ≡ b → others (found ++ x ∷ []) ys ≡ others found (without_name (Some x) ys)
        → (if is_in y (found ++ x ∷ []) then others (found ++ x ∷ []) ys else y ∷ others (found ++ x ∷ []) ys)
        ≡ others found (if b then without_name (Some x) ys else y ∷ without_name (Some x) ys)
    by true e h =
        ap (λ (c : Bool). if c then others (found ++ x ∷ []) ys else y ∷ others (found ++ x ∷ []) ys)
        (in_more y x found ∙ ap (λ (c : Bool). is_in y found || c) (sym (flipped x y) ∙ e) ∙ or_true (is_in y found)) ∙ h
    by false e h =
        ap (λ (c : Bool). if c then others (found ++ x ∷ []) ys else y ∷ others (found ++ x ∷ []) ys)
        (in_more y x found ∙ ap (λ (c : Bool). is_in y found || c) (sym (flipped x y) ∙ e) ∙ or_false (is_in y found))
        ∙ ap (λ (list : List ℕ). if is_in y found then list else y ∷ list) h

-- a name of the list may be left out before
others-dropped : (found : List ℕ) (x : ℕ) (ys : List ℕ) → is_in x found ≡ true → others found (without_name (Some x) ys) ≡ others found ys
others-dropped found x [] there = refl
others-dropped found x (y ∷ ys) there = by (nat_eq x y) refl (others-dropped found x ys there)
  where
    same : nat_eq x y ≡ true → x ≡ y
    same e = grind arith

    by : (b : Bool) → nat_eq x y ≡ b → others found (without_name (Some x) ys) ≡ others found ys
        → others found (if b then without_name (Some x) ys else y ∷ without_name (Some x) ys) ≡ (if is_in y found then others found ys else y ∷ others found ys)
    by true e h =
        h ∙ ap (λ (c : Bool). if c then others found ys else y ∷ others found ys) (sym (subst (λ (z : ℕ). is_in z found ≡ true) (same e) there))
    by false e h = ap (λ (list : List ℕ). if is_in y found then list else y ∷ list) h

append_none : (xs : List ℕ) → xs ++ [] ≡ xs
append_none [] = refl
append_none (x ∷ xs) = ap (λ (list : List ℕ). x ∷ list) (append_none xs)

append_one : (xs : List ℕ) (x : ℕ) (ys : List ℕ) → (xs ++ x ∷ []) ++ ys ≡ xs ++ x ∷ ys
append_one [] x ys = refl
append_one (z ∷ xs) x ys = ap (λ (list : List ℕ). z ∷ list) (append_one xs x ys)

-- what is put behind a list is what is not in it, each name where it stands first
and_names-is : (found xs : List ℕ) → and_names found xs ≡ found ++ others found (first_uses xs)
and_names-is found [] = sym (append_none found)
and_names-is found (x ∷ xs) = by (is_in x found) refl (and_names-is found xs) (and_names-is (found ++ x ∷ []) xs)
  where
    by : (b : Bool) → is_in x found ≡ b → and_names found xs ≡ found ++ others found (first_uses xs)
        → and_names (found ++ x ∷ []) xs ≡ (found ++ x ∷ []) ++ others (found ++ x ∷ []) (first_uses xs)
        → and_names (if b then found else found ++ x ∷ []) xs
        ≡ found ++ (if b then others found (without_name (Some x) (first_uses xs)) else x ∷ others found (without_name (Some x) (first_uses xs)))
    by true e h k = h ∙ ap (λ (list : List ℕ). found ++ list) (sym (others-dropped found x (first_uses xs) e))
    by false e h k =
        k ∙ append_one found x (others (found ++ x ∷ []) (first_uses xs))
        ∙ ap (λ (list : List ℕ). found ++ x ∷ list) (others-more found x (first_uses xs))

others-none : (xs : List ℕ) → others [] xs ≡ xs
others-none [] = refl
others-none (x ∷ xs) = ap (λ (list : List ℕ). x ∷ list) (others-none xs)

-- from nothing on, each name of a list once
from_none : (xs : List ℕ) → and_names [] xs ≡ first_uses xs
from_none xs = and_names-is [] xs ∙ others-none (first_uses xs)

-- ---- parameters

pub none_marked : (n name : ℕ) → is_marked (replicate n false) name ≡ false
none_marked zero name = refl
none_marked (suc n) zero = refl
none_marked (suc n) (suc name) = none_marked n name

all_unmarked : (n : ℕ) (xs : List ℕ) → unmarked (replicate n false) xs ≡ xs
all_unmarked n [] = refl
all_unmarked n (x ∷ xs) =
    ap (λ (b : Bool). if b then unmarked (replicate n false) xs else x ∷ unmarked (replicate n false) xs) (none_marked n x)
    ∙ ap (λ (list : List ℕ). x ∷ list) (all_unmarked n xs)

pub parameters_listed : (n : ℕ) (marks : List Bool) (found : List ℕ) (tree : Tree) → marks ≡ replicate n false
    → found ≡ and_names [] (unmarked marks (free_uses tree)) → found ≡ parameters_of tree
parameters_listed n marks found tree is listed =
    listed ∙ ap (λ (list : List Bool). and_names [] (unmarked list (free_uses tree))) is ∙ ap (and_names []) (all_unmarked n (free_uses tree)) ∙ from_none (free_uses tree)

pub marks_below : (n : ℕ) (marks : List Bool) (tree : Tree) → marks ≡ replicate n false → TreeBelow n tree → TreeBelow (length marks) tree
marks_below n marks tree is h = subst (λ (m : ℕ). TreeBelow m tree) (sym (ap (λ (list : List Bool). length list) is ∙ many n)) h
  where
    many : (n : ℕ) → length (replicate n false) ≡ n
    many zero = refl
    many (suc n) = ap suc (many n)

pub ruleset parameters = (parameters_listed, marks_below)

-- ---- and definitions

pub all_listed : (tree : Tree) (parameters defined all : List ℕ) → parameters ≡ parameters_of tree → defined ≡ and_names [] (definitions_of tree) → all ≡ parameters ++ defined
    → all ≡ all_names tree
all_listed tree parameters defined all is listed joined = joined ∙ (λ i. is i ++ (listed ∙ from_none (definitions_of tree)) i)

pub ruleset definitions = (all_listed)

-- ---- all of them are below

module _ (n : ℕ) where
  abbrev pub Below : List ℕ → Type 0
  Below xs = AllByRecursion (λ (x : ℕ). x < n) xs

  name_in-below : (o : Operand) → OperandBelow n o → Below (name_in o)
  name_in-below (Lit value) b = tt
  name_in-below (Name x) b = (b, tt)

  names_read-below : (item : Item) → ItemBelow n item → Below (names_read item)
  names_read-below (Bin op dest left right) b = all_both (λ (x : ℕ). x < n) (name_in left) (name_in right) (name_in-below left b.1) (name_in-below right b.2)
  names_read-below (Copy dest from) b = name_in-below from b.1
  names_read-below (Load dest array index) b = name_in-below index b.1
  names_read-below (Store array index value) b = all_both (λ (x : ℕ). x < n) (name_in index) (name_in value) (name_in-below index b.0) (name_in-below value b.1)
  names_read-below (Print value) b = name_in-below value b
  names_read-below (Read dest) b = tt
  names_read-below (More dest) b = tt

  homes-below : (homes : List Home) → StubBelow n homes → Below (names_in_homes homes)
  homes-below [] b = tt
  homes-below (home ∷ homes) b = all_both (λ (x : ℕ). x < n) (name_in home.value) (names_in_homes homes) (name_in-below home.value b.0) (homes-below homes b.1)

  without_name-below : (d : Option ℕ) (xs : List ℕ) → Below xs → Below (without_name d xs)
  without_name-below d [] h = tt
  without_name-below d (x ∷ xs) h = by (writes d x) (without_name-below d xs h.1)
    where
      by : (c : Bool) → Below (without_name d xs) → Below (if c then without_name d xs else (x ∷ without_name d xs))
      by true k = k
      by false k = (h.0, k)

  free_uses-below : (tree : Tree) → TreeBelow n tree → Below (free_uses tree)
  free_uses-below (Pending tag origin item rest) b =
      all_both (λ (x : ℕ). x < n) (names_read item) (without_name (dest_of item) (free_uses rest)) (names_read-below item b.0)
      (without_name-below (dest_of item) (free_uses rest) (free_uses-below rest b.1))
  free_uses-below (Undecided tag origin on one other) b =
      all_both (λ (x : ℕ). x < n) (name_in on) (free_uses one ++ free_uses other) (name_in-below on b.0)
      (all_both (λ (x : ℕ). x < n) (free_uses one) (free_uses other) (free_uses-below one b.1) (free_uses-below other b.2))
  free_uses-below (Exit region tag homes) b = homes-below homes b
  free_uses-below Stop_exit b = tt
  free_uses-below (Trap_exit kind line) b = tt

  first_uses-below : (xs : List ℕ) → Below xs → Below (first_uses xs)
  first_uses-below [] h = tt
  first_uses-below (x ∷ xs) h = (h.0, without_name-below (Some x) (first_uses xs) (first_uses-below xs h.1))

  named-below : (item : Item) (xs : List ℕ) → ItemBelow n item → Below xs → Below (named (dest_of item) xs)
  named-below (Bin op dest left right) xs b h = (b.0, h)
  named-below (Copy dest from) xs b h = (b.0, h)
  named-below (Load dest array index) xs b h = (b.0, h)
  named-below (Store array index value) xs b h = h
  named-below (Print value) xs b h = h
  named-below (Read dest) xs b h = (b, h)
  named-below (More dest) xs b h = (b, h)

  definitions-below : (tree : Tree) → TreeBelow n tree → Below (definitions_of tree)
  definitions-below (Pending tag origin item rest) b = named-below item (definitions_of rest) b.0 (definitions-below rest b.1)
  definitions-below (Undecided tag origin on one other) b =
      all_both (λ (x : ℕ). x < n) (definitions_of one) (definitions_of other) (definitions-below one b.1) (definitions-below other b.2)
  definitions-below (Exit region tag homes) b = tt
  definitions-below Stop_exit b = tt
  definitions-below (Trap_exit kind line) b = tt

  pub parameters-below : (tree : Tree) → TreeBelow n tree → Below (parameters_of tree)
  parameters-below tree b = first_uses-below (free_uses tree) (free_uses-below tree b)

  pub all_names-below : (tree : Tree) → TreeBelow n tree → Below (all_names tree)
  all_names-below tree b =
      all_both (λ (x : ℕ). x < n) (parameters_of tree) (first_uses (definitions_of tree)) (parameters-below tree b)
      (first_uses-below (definitions_of tree) (definitions-below tree b))
