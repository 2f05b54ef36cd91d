-- Marks in a table by name, and the list of a tree's parameters.
use Rattle.std.proofs.Common.{◌≡◌, ℕ, zero, suc, ◌+◌, ◌<◌, ◌≤◌, Bool, true, false, List, [], ◌∷◌, ◌++◌, drop}
use Rattle.std.proofs.Common.{Option, Some, length, refl, sym, ◌∙◌, ap, arith, get_or, get_or-set_same, get_or-set_other}
use Rattle.std.specs.Prelude.{nat_eq, not, ◌||◌, ◌&&◌, if◌then◌else◌, slice_set, take, replicate}
use Rattle.std.specs.List.{AllByRecursion}
use Rattle.std.proofs.Math.Seq.{take-append_seam}
use Rattle.std.proofs.lemmas.Bool.{eqb-true}
use Rattle.std.proofs.lemmas.Option.{slice_get-get_or}
use Rattle.pc_word.specs.declared.item.Item.{Item}
use Rattle.pc_word.specs.declared.item.Item.TheVariants.{Bin, Copy, Load, Store, Print, Read, More}
use Rattle.pc_word.specs.declared.item.Operand.{Operand}
use Rattle.pc_word.specs.declared.item.Operand.TheVariants.{Name, Lit}
use Rattle.pc_word.specs.Items.{dest_of, reads, reads_name}
use Rattle.pc_word.specs.Commit.{writes}
use Rattle.pc_word.proofs.Lists.{all_at}
use Rattle.pc_word.proofs.Places.{drop_at}
use Rattle.pc_window.specs.declared.home.Home.{Home}
use Rattle.pc_window.specs.Tree.{Tree, Pending, Undecided, Exit, Stop_exit, Trap_exit}
use Rattle.pc_window.specs.Names.{homes_use, uses, name_in, names_read, names_in_homes, without_name, free_uses, first_uses, parameters_of}
use Rattle.pc_window.specs.Rebasing.{is_in}
use Rattle.pc_window.proofs.Listed.{flipped}
use Rattle.pc_fill.specs.models.Places.{known_in}
use Rattle.pc_fill.specs.models.Known.{with_name, with_names}

-- a mark that is set
written : (table : List Bool) (name : ℕ) (value : Bool) → name < length table → (f : Bool → Bool → Bool) → f true (known_in table name) ≡ value
    → ((x : ℕ) → f false (known_in table x) ≡ known_in table x)
    → (x : ℕ) → known_in (slice_set table name value) x ≡ f (nat_eq name x) (known_in table x)
written table name value less f at_name at_other x = by_test (nat_eq name x) refl
  where
    by_test : (b : Bool) → nat_eq name x ≡ b → known_in (slice_set table name value) x ≡ f b (known_in table x)
    by_test true e =
        let same : name ≡ x = eqb-true name x e in
        ap (known_in (slice_set table name value)) (sym same) ∙ get_or-set_same table name value false less ∙ sym at_name ∙ ap (λ (n : ℕ). f true (known_in table n)) same
    by_test false e = get_or-set_other table name x value false (λ same. absurd (grind arith)) ∙ sym (at_other x)

pub mark_set : (table : List Bool) (name : ℕ) → name < length table → known_in (slice_set table name true) ≡ with_name name (known_in table)
mark_set table name less = λ i x. written table name true less (λ b k. b || k) refl (λ y. refl) x i

-- ---- marks, one after the other

module _ (names : List ℕ) (at : ℕ) (known : ℕ → Bool) where
  -- one name more
  pub name_marked : (name : ℕ) (first next : ℕ → Bool) → with_names names first ≡ with_names (drop at names) known → at < length names
      → next ≡ with_name (get_or names at name) known → with_names names first ≡ with_names (drop (at + 1) names) next
  name_marked name first next is less marked =
      let step : suc at ≡ at + 1 = omega arith in
      is ∙ ap (λ (l : List ℕ). with_names l known) (drop_at names at (get_or names at name) (slice_get-get_or names at name less))
      ∙ ap (with_names (drop (suc at) names)) (sym marked) ∙ ap (λ (n : ℕ). with_names (drop n names) next) step

  -- all are marked
  pub all_marked : (first : ℕ → Bool) → with_names names first ≡ with_names (drop at names) known → length names ≤ at → known ≡ with_names names first
  all_marked first is end = ap (λ (l : List ℕ). with_names l known) (sym (nothing names at end)) ∙ sym is
    where
      nothing : (xs : List ℕ) (n : ℕ) → length xs ≤ n → drop n xs ≡ []
      nothing [] zero h = refl
      nothing [] (suc n) h = refl
      nothing (x ∷ xs) zero h = absurd (omega (arith, h))
      nothing (x ∷ xs) (suc n) h = nothing xs n (omega (arith, h))

-- a name of a list whose names are all below a number
pub name_below : (n : ℕ) (names : List ℕ) (at other : ℕ) → AllByRecursion (λ (x : ℕ). x < n) names → at < length names → get_or names at other < n
name_below n names at other all less = all_at (λ (x : ℕ). x < n) names at (get_or names at other) all (slice_get-get_or names at other less)

-- ---- the parameters of a tree

or_none : (b : Bool) → (b || false) ≡ b
or_none true = refl
or_none false = refl

joined : (p q r : Bool) → (p || (q || r)) ≡ ((p || q) || r)
joined true q r = refl
joined false q r = refl

listed_both : (xs ys : List ℕ) (x : ℕ) → is_in x (xs ++ ys) ≡ (is_in x xs || is_in x ys)
listed_both [] ys x = refl
listed_both (y ∷ xs) ys x = ap (λ (b : Bool). nat_eq x y || b) (listed_both xs ys x) ∙ joined (nat_eq x y) (is_in x xs) (is_in x ys)

-- two lists that tell what is used
told_both : (xs ys : List ℕ) (x : ℕ) (p q : Bool) → is_in x xs ≡ p → is_in x ys ≡ q → is_in x (xs ++ ys) ≡ (p || q)
told_both xs ys x p q e f = listed_both xs ys x ∙ (λ i. e i || f i)

name_told : (x : ℕ) (o : Operand) → is_in x (name_in o) ≡ reads_name o x
name_told x (Name y) = or_none (nat_eq x y) ∙ flipped x y
name_told x (Lit value) = refl

two_told : (x : ℕ) (o p : Operand) → is_in x (name_in o ++ name_in p) ≡ (reads_name o x || reads_name p x)
two_told x o p = told_both (name_in o) (name_in p) x (reads_name o x) (reads_name p x) (name_told x o) (name_told x p)

item_told : (x : ℕ) (item : Item) → is_in x (names_read item) ≡ reads item x
item_told x (Bin op d l r) = two_told x l r
item_told x (Copy d o) = name_told x o
item_told x (Load d array o) = name_told x o
item_told x (Store array o v) = two_told x o v
item_told x (Print o) = name_told x o
item_told x (Read d) = refl
item_told x (More d) = refl

homes_told : (x : ℕ) (homes : List Home) → is_in x (names_in_homes homes) ≡ homes_use homes x
homes_told x [] = refl
homes_told x (home ∷ homes) =
    told_both (name_in home.value) (names_in_homes homes) x (reads_name home.value x) (homes_use homes x) (name_told x home.value) (homes_told x homes)

without_told : (d : Option ℕ) (xs : List ℕ) (x : ℕ) → is_in x (without_name d xs) ≡ (not (writes d x) && is_in x xs)
without_told d [] x = none (writes d x)
  where
    none : (b : Bool) → false ≡ (not b && false)
    none true = refl
    none false = refl
without_told d (y ∷ xs) x =
    by (writes d y) (nat_eq x y) (writes d x) refl (λ e. ap (writes d) (sym (eqb-true x y e))) (without_told d xs x)
  where
    by : (b c w : Bool) → nat_eq x y ≡ c → (c ≡ true → b ≡ w) → is_in x (without_name d xs) ≡ (not w && is_in x xs)
        → is_in x (if b then without_name d xs else (y ∷ without_name d xs)) ≡ (not w && (c || is_in x xs))
    by true false w e same rest = rest
    by false false w e same rest = (λ i. e i || rest i)
    by true true true e same rest = rest
    by true true false e same rest = absurd (let k = same refl in cc)
    by false true true e same rest = absurd (let k = same refl in cc)
    by false true false e same rest = ap (λ (b : Bool). b || is_in x (without_name d xs)) e

free_told : (x : ℕ) (tree : Tree) → is_in x (free_uses tree) ≡ uses tree x
free_told x (Pending tag origin item rest) =
    told_both (names_read item) (without_name (dest_of item) (free_uses rest)) x (reads item x) (not (writes (dest_of item) x) && uses rest x)
    (item_told x item)
    (without_told (dest_of item) (free_uses rest) x ∙ ap (λ (b : Bool). not (writes (dest_of item) x) && b) (free_told x rest))
free_told x (Undecided tag origin on one other) =
    told_both (name_in on) (free_uses one ++ free_uses other) x (reads_name on x) (uses one x || uses other x) (name_told x on)
    (told_both (free_uses one) (free_uses other) x (uses one x) (uses other x) (free_told x one) (free_told x other))
free_told x (Exit region tag homes) = homes_told x homes
free_told x Stop_exit = refl
free_told x (Trap_exit kind line) = refl

-- each name once tells the same
first_told : (x : ℕ) (xs : List ℕ) → is_in x (first_uses xs) ≡ is_in x xs
first_told x [] = refl
first_told x (y ∷ xs) =
    ap (λ (b : Bool). nat_eq x y || b) (without_told (Some y) (first_uses xs) x ∙ ap (λ (b : Bool). not (nat_eq y x) && b) (first_told x xs))
    ∙ ap (λ (b : Bool). nat_eq x y || (not b && is_in x xs)) (flipped y x) ∙ once (nat_eq x y) (is_in x xs)
  where
    once : (p q : Bool) → (p || (not p && q)) ≡ (p || q)
    once true q = refl
    once false q = refl

-- the names of a list are marked
marked_in : (xs : List ℕ) (known : ℕ → Bool) (x : ℕ) → with_names xs known x ≡ (is_in x xs || known x)
marked_in [] known x = refl
marked_in (y ∷ xs) known x =
    marked_in xs (with_name y known) x ∙ ap (λ (b : Bool). is_in x xs || (b || known x)) (flipped y x) ∙ turned (is_in x xs) (nat_eq x y) (known x)
  where
    turned : (p q r : Bool) → (p || (q || r)) ≡ ((q || p) || r)
    turned true true r = refl
    turned true false r = refl
    turned false true r = refl
    turned false false r = refl

-- a table without a mark
pub unmarked : (n x : ℕ) → known_in (replicate n false) x ≡ false
unmarked zero x = refl
unmarked (suc n) zero = refl
unmarked (suc n) (suc x) = unmarked n x

-- the parameters of a tree, marked
pub parameters_are : (tree : Tree) (table : List Bool) (n : ℕ) → known_in table ≡ with_names (parameters_of tree) (known_in (replicate n false)) → known_in table ≡ uses tree
parameters_are tree table n e = e ∙ (λ i x. (marked_in (parameters_of tree) (known_in (replicate n false)) x
    ∙ (λ j. (first_told x (free_uses tree) ∙ free_told x tree) j || unmarked n x j) ∙ or_none (uses tree x)) i)

-- a table that was written through a slice
pub written_back : (new old : List Bool) (n : ℕ) → length new ≡ n → take n (new ++ drop (length new) old) ≡ new
written_back new old n e = ap (λ (k : ℕ). take k (new ++ drop (length new) old)) (sym e) ∙ take-append_seam new (drop (length new) old)

pub ruleset marks = (mark_set, name_below, all_marked)
