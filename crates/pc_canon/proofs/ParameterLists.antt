-- The list of a tree's parameters: each name that is used, once.
use Rattle.std.proofs.Common.{◌≡◌, ℕ, List, [], ◌∷◌, ◌++◌, inl, inr, refl, sym, ◌∙◌, ap}
use Rattle.std.specs.Prelude.{Bool, true, false, not, ◌&&◌, ◌||◌, if◌then◌else◌, nat_eq, Option, Some}
use Rattle.std.specs.List.{AllByRecursion, IsDistinct}
use Rattle.std.proofs.lemmas.Bool.{eqb-true, eq-eqb}
use Rattle.pc_word.specs.declared.item.Item.{Item}
use Rattle.pc_word.specs.declared.item.Item.TheVariants.{Bin, Copy, Load, Store, Print, Read, More}
use Rattle.pc_word.specs.declared.item.Operand.{Operand}
use Rattle.pc_word.specs.declared.item.Operand.TheVariants.{Name, Lit}
use Rattle.pc_word.specs.Items.{dest_of, reads, reads_name}
use Rattle.pc_word.specs.Commit.{writes}
use Rattle.pc_word.proofs.Lists.{all_both, all_imply}
use Rattle.pc_word.proofs.Truth.{and_true, not_true, or_first, or_second, or_true}
use Rattle.pc_window.specs.declared.home.Home.{Home}
use Rattle.pc_window.specs.Tree.{Tree, Pending, Undecided, Exit, Stop_exit, Trap_exit}
use Rattle.pc_window.specs.Names.{homes_use, uses, name_in, names_read, names_in_homes, without_name, free_uses, first_uses, parameters_of}
use Rattle.pc_window.specs.Rebasing.{is_in}
use Rattle.pc_word.proofs.Places.{other_way}
use Rattle.pc_table.proofs.Tests.{needed_above}

-- ---- each name that is used is listed

in_both : (xs ys : List ℕ) (x : ℕ) → (is_in x xs || is_in x ys) ≡ true → is_in x (xs ++ ys) ≡ true
in_both [] ys x h = h
in_both (y ∷ xs) ys x h = by (nat_eq x y) (is_in x xs) (is_in x ys) (is_in x (xs ++ ys)) h (in_both xs ys x)
  where
    by : (a b c d : Bool) → ((a || b) || c) ≡ true → ((b || c) ≡ true → d ≡ true) → (a || d) ≡ true
    by true b c d h f = refl
    by false b c d h f = f h

in_either : (xs ys : List ℕ) (x : ℕ) (p q : Bool) → (p ≡ true → is_in x xs ≡ true) → (q ≡ true → is_in x ys ≡ true) → (p || q) ≡ true
    → is_in x (xs ++ ys) ≡ true
in_either xs ys x p q f g h = elim (or_true p q h) [
  | inl k ↦ in_both xs ys x (or_first (is_in x xs) (is_in x ys) (f k))
  | inr k ↦ in_both xs ys x (or_second (is_in x xs) (is_in x ys) (g k))
]

name_in_it : (x : ℕ) (o : Operand) → reads_name o x ≡ true → is_in x (name_in o) ≡ true
name_in_it x (Name y) h = or_first (nat_eq x y) false (eq-eqb x y (sym (eqb-true y x h)))
name_in_it x (Lit value) h = absurd (cc)

item_in_it : (x : ℕ) (item : Item) → reads item x ≡ true → is_in x (names_read item) ≡ true
item_in_it x (Bin op d l r) h = in_either (name_in l) (name_in r) x (reads_name l x) (reads_name r x) (name_in_it x l) (name_in_it x r) h
item_in_it x (Copy d o) h = name_in_it x o h
item_in_it x (Load d array o) h = name_in_it x o h
item_in_it x (Store array o v) h = in_either (name_in o) (name_in v) x (reads_name o x) (reads_name v x) (name_in_it x o) (name_in_it x v) h
item_in_it x (Print o) h = name_in_it x o h
item_in_it x (Read d) h = absurd (cc)
item_in_it x (More d) h = absurd (cc)

home_in_it : (x : ℕ) (homes : List Home) → homes_use homes x ≡ true → is_in x (names_in_homes homes) ≡ true
home_in_it x [] h = absurd (cc)
home_in_it x (home ∷ homes) h =
    in_either (name_in home.value) (names_in_homes homes) x (reads_name home.value x) (homes_use homes x) (name_in_it x home.value)
    (home_in_it x homes) h

in_without : (d : Option ℕ) (xs : List ℕ) (x : ℕ) → writes d x ≡ false → is_in x xs ≡ true → is_in x (without_name d xs) ≡ true
in_without d [] x w h = h
in_without d (y ∷ xs) x w h =
    by (writes d y) (nat_eq x y) (is_in x xs) refl (λ e. ap (λ (z : ℕ). writes d z) (sym (eqb-true x y e)) ∙ w) h (in_without d xs x w)
  where
    by : (b c q : Bool) → nat_eq x y ≡ c → (c ≡ true → b ≡ false) → (c || q) ≡ true → (q ≡ true → is_in x (without_name d xs) ≡ true)
        → is_in x (if b then without_name d xs else (y ∷ without_name d xs)) ≡ true
    by true true q e no_write h f = absurd (let k = no_write refl in cc)
    by true false q e no_write h f = f h
    by false true q e no_write h f = or_first (nat_eq x y) (is_in x (without_name d xs)) e
    by false false q e no_write h f = or_second (nat_eq x y) (is_in x (without_name d xs)) (f h)

free_listed : (x : ℕ) (tree : Tree) → uses tree x ≡ true → is_in x (free_uses tree) ≡ true
free_listed x (Pending tag origin item rest) h =
    in_either (names_read item) (without_name (dest_of item) (free_uses rest)) x (reads item x) (not (writes (dest_of item) x) && uses rest x)
    (item_in_it x item)
    (λ k. (let p = and_true (not (writes (dest_of item) x)) (uses rest x) k in
    in_without (dest_of item) (free_uses rest) x (not_true (writes (dest_of item) x) p.0) (free_listed x rest p.1))) h
free_listed x (Undecided tag origin on one other) h =
    in_either (name_in on) (free_uses one ++ free_uses other) x (reads_name on x) (uses one x || uses other x) (name_in_it x on)
    (λ k. in_either (free_uses one) (free_uses other) x (uses one x) (uses other x) (free_listed x one) (free_listed x other) k) h
free_listed x (Exit region tag homes) h = home_in_it x homes h
free_listed x Stop_exit h = absurd (cc)
free_listed x (Trap_exit kind line) h = absurd (cc)

listed_step : (y x : ℕ) (xs : List ℕ) (b : Bool) → nat_eq x y ≡ b → (b || is_in x xs) ≡ true → (is_in x xs ≡ true → is_in x (first_uses xs) ≡ true)
    → (nat_eq x y || is_in x (without_name (Some y) (first_uses xs))) ≡ true
listed_step y x xs true e k next = or_first (nat_eq x y) (is_in x (without_name (Some y) (first_uses xs))) e
listed_step y x xs false e k next =
    or_second (nat_eq x y) (is_in x (without_name (Some y) (first_uses xs))) (in_without (Some y) (first_uses xs) x (other_way x y e) (next k))

first_listed : (xs : List ℕ) (x : ℕ) → is_in x xs ≡ true → is_in x (first_uses xs) ≡ true
first_listed [] x h = h
first_listed (y ∷ xs) x h = listed_step y x xs (nat_eq x y) refl h (λ k. first_listed xs x k)

-- each name that a tree uses is in the list of its parameters
pub parameters_listed : (tree : Tree) (x : ℕ) → uses tree x ≡ true → is_in x (parameters_of tree) ≡ true
parameters_listed tree x h = first_listed (free_uses tree) x (free_listed x tree h)

-- ---- each name that is listed is used

-- what holds of each name of a list holds of each that is left of it
without_all : (P : ℕ → Type 0) (d : Option ℕ) (xs : List ℕ) → AllByRecursion P xs → AllByRecursion P (without_name d xs)
without_all P d [] h = tt
without_all P d (x ∷ xs) h = by (writes d x) (without_all P d xs h.1)
  where
    by : (c : Bool) → AllByRecursion P (without_name d xs) → AllByRecursion P (if c then without_name d xs else (x ∷ without_name d xs))
    by true k = k
    by false k = (h.0, k)

-- and what is left is not written
without_written : (P : ℕ → Type 0) (d : Option ℕ) (xs : List ℕ) → AllByRecursion P xs
    → AllByRecursion (λ x. (writes d x ≡ false) × P x) (without_name d xs)
without_written P d [] h = tt
without_written P d (x ∷ xs) h = by (writes d x) refl (without_written P d xs h.1)
  where
    by : (c : Bool) → writes d x ≡ c → AllByRecursion (λ x. (writes d x ≡ false) × P x) (without_name d xs)
        → AllByRecursion (λ x. (writes d x ≡ false) × P x) (if c then without_name d xs else (x ∷ without_name d xs))
    by true e k = k
    by false e k = ((e, h.0), k)

first_all : (P : ℕ → Type 0) (xs : List ℕ) → AllByRecursion P xs → AllByRecursion P (first_uses xs)
first_all P [] h = tt
first_all P (x ∷ xs) h = (h.0, without_all P (Some x) (first_uses xs) (first_all P xs h.1))

name_read : (o : Operand) → AllByRecursion (λ x. reads_name o x ≡ true) (name_in o)
name_read (Name y) = (eq-eqb y y refl, tt)
name_read (Lit value) = tt

two_read : (l r : Operand) → AllByRecursion (λ x. (reads_name l x || reads_name r x) ≡ true) (name_in l ++ name_in r)
two_read l r = all_both (λ x. (reads_name l x || reads_name r x) ≡ true) (name_in l) (name_in r)
    (all_imply (λ x. reads_name l x ≡ true) (λ x. (reads_name l x || reads_name r x) ≡ true) (name_in l)
    (λ x h. or_first (reads_name l x) (reads_name r x) h) (name_read l))
    (all_imply (λ x. reads_name r x ≡ true) (λ x. (reads_name l x || reads_name r x) ≡ true) (name_in r)
    (λ x h. or_second (reads_name l x) (reads_name r x) h) (name_read r))

item_read : (item : Item) → AllByRecursion (λ x. reads item x ≡ true) (names_read item)
item_read (Bin op d l r) = two_read l r
item_read (Copy d o) = name_read o
item_read (Load d array o) = name_read o
item_read (Store array o v) = two_read o v
item_read (Print o) = name_read o
item_read (Read d) = tt
item_read (More d) = tt

homes_read : (homes : List Home) → AllByRecursion (λ x. homes_use homes x ≡ true) (names_in_homes homes)
homes_read [] = tt
homes_read (home ∷ homes) =
    all_both (λ x. homes_use (home ∷ homes) x ≡ true) (name_in home.value) (names_in_homes homes)
    (all_imply (λ x. reads_name home.value x ≡ true) (λ x. homes_use (home ∷ homes) x ≡ true) (name_in home.value)
    (λ x h. or_first (reads_name home.value x) (homes_use homes x) h) (name_read home.value))
    (all_imply (λ x. homes_use homes x ≡ true) (λ x. homes_use (home ∷ homes) x ≡ true) (names_in_homes homes)
    (λ x h. or_second (reads_name home.value x) (homes_use homes x) h) (homes_read homes))

free_used : (tree : Tree) → AllByRecursion (λ x. uses tree x ≡ true) (free_uses tree)
free_used (Pending tag origin item rest) =
    all_both (λ x. uses (Pending tag origin item rest) x ≡ true) (names_read item) (without_name (dest_of item) (free_uses rest))
    (all_imply (λ x. reads item x ≡ true) (λ x. uses (Pending tag origin item rest) x ≡ true) (names_read item)
    (λ x h. or_first (reads item x) (not (writes (dest_of item) x) && uses rest x) h) (item_read item))
    (all_imply (λ x. (writes (dest_of item) x ≡ false) × (uses rest x ≡ true)) (λ x. uses (Pending tag origin item rest) x ≡ true)
    (without_name (dest_of item) (free_uses rest))
    (λ x h. needed_above (reads item x) (writes (dest_of item) x) (uses rest x) h.0 h.1)
    (without_written (λ x. uses rest x ≡ true) (dest_of item) (free_uses rest) (free_used rest)))
free_used (Undecided tag origin on one other) =
    all_both (λ x. uses (Undecided tag origin on one other) x ≡ true) (name_in on) (free_uses one ++ free_uses other)
    (all_imply (λ x. reads_name on x ≡ true) (λ x. uses (Undecided tag origin on one other) x ≡ true) (name_in on)
    (λ x h. or_first (reads_name on x) (uses one x || uses other x) h) (name_read on))
    (all_both (λ x. uses (Undecided tag origin on one other) x ≡ true) (free_uses one) (free_uses other)
    (all_imply (λ x. uses one x ≡ true) (λ x. uses (Undecided tag origin on one other) x ≡ true) (free_uses one)
    (λ x h. or_second (reads_name on x) (uses one x || uses other x) (or_first (uses one x) (uses other x) h)) (free_used one))
    (all_imply (λ x. uses other x ≡ true) (λ x. uses (Undecided tag origin on one other) x ≡ true) (free_uses other)
    (λ x h. or_second (reads_name on x) (uses one x || uses other x) (or_second (uses one x) (uses other x) h)) (free_used other)))
free_used (Exit region tag homes) = homes_read homes
free_used Stop_exit = tt
free_used (Trap_exit kind line) = tt

-- each parameter in the list is used
pub parameters_used : (tree : Tree) → AllByRecursion (λ x. uses tree x ≡ true) (parameters_of tree)
parameters_used tree = first_all (λ x. uses tree x ≡ true) (free_uses tree) (free_used tree)

-- ---- once each

-- a name that is taken out of a list is not there
taken_out : (x : ℕ) (xs : List ℕ) → AllByRecursion (λ y. nat_eq x y ≡ false) (without_name (Some x) xs)
taken_out x [] = tt
taken_out x (y ∷ xs) = by (nat_eq x y) refl (taken_out x xs)
  where
    by : (b : Bool) → nat_eq x y ≡ b → AllByRecursion (λ y. nat_eq x y ≡ false) (without_name (Some x) xs)
        → AllByRecursion (λ y. nat_eq x y ≡ false) (if b then without_name (Some x) xs else (y ∷ without_name (Some x) xs))
    by true e k = k
    by false e k = (e, k)

keep_or_not : (b : Bool) (y : ℕ) (rest : List ℕ) → AllByRecursion (λ x. nat_eq y x ≡ false) rest → IsDistinct nat_eq rest
    → IsDistinct nat_eq (if b then rest else (y ∷ rest))
unfolding IsDistinct
keep_or_not true y rest p q = q
keep_or_not false y rest p q = (p, q)

without_distinct : (d : Option ℕ) (xs : List ℕ) → IsDistinct nat_eq xs → IsDistinct nat_eq (without_name d xs)
unfolding IsDistinct
without_distinct d [] h = tt
without_distinct d (y ∷ xs) h =
    keep_or_not (writes d y) y (without_name d xs) (without_all (λ x. nat_eq y x ≡ false) d xs h.0) (without_distinct d xs h.1)

first_distinct : (xs : List ℕ) → IsDistinct nat_eq (first_uses xs)
unfolding IsDistinct
first_distinct [] = tt
first_distinct (x ∷ xs) = (taken_out x (first_uses xs), without_distinct (Some x) (first_uses xs) (first_distinct xs))

-- no parameter is in the list twice
pub parameters_distinct : (tree : Tree) → IsDistinct nat_eq (parameters_of tree)
parameters_distinct tree = first_distinct (free_uses tree)
