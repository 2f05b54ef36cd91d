-- A tree with new names is alike, and scoped as it was.
use Rattle.std.proofs.Common.{◌≡◌, ℕ, ◌+◌, ◌<◌, List, [], ◌∷◌, Option, Some, None, map, refl, sym, ◌∙◌, ap, subst}
use Rattle.std.specs.Prelude.{Bool, true, false, not, ◌&&◌, ◌||◌, if◌then◌else◌, nat_eq, option_map}
use Rattle.std.specs.List.{AllByRecursion}
use Rattle.pc_word.specs.declared.item.Item.{Item}
use Rattle.pc_word.specs.declared.item.Item.TheVariants.{Bin, Copy, Load, Store, Print, Read, More}
use Rattle.pc_word.specs.declared.item.Operand.{Operand}
use Rattle.pc_word.specs.declared.item.Operand.TheVariants.{Name, Lit}
use Rattle.pc_word.specs.Items.{dest_of}
use Rattle.pc_word.specs.Commit.{writes}
use Rattle.pc_linear.specs.Form.{Form}
use Rattle.pc_window.specs.declared.home.Home.{Home}
use Rattle.pc_window.specs.Tree.{Tree, Pending, Undecided, Exit, Stop_exit, Trap_exit}
use Rattle.pc_window.specs.Names.{IsKnown, ReadsKnown, IsNew, and_dest, HomesKnown, Scoped}
use Rattle.pc_window.specs.Opening.{OperandBelow, ItemBelow, StubBelow, TreeBelow}
use Rattle.pc_canon.specs.Pairs.{Pair, corresponds, ones, others, defined, OperandsAlike, HomesAlike}
use Rattle.pc_canon.specs.Shift.{FormsAlike, ItemsAlike, both_bin, both_copy, both_load, both_store, both_print, both_read, both_more, Maps, DestsAlike, TreesAlike, both_then}
use Rattle.pc_canon.specs.Shift.{EachPair, both_either, both_exit, both_stop, both_trap}
use Rattle.pc_canon.specs.Canonical.{placed_homes, side_by_side}
use Rattle.pc_canon.proofs.Membership.{has}
use Rattle.pc_renumber.specs.Renumbering.{renumbered_tree}
use Rattle.pc_renumber.proofs.NamesOfTrees.{OfOperand, OfItem, OfHomes, OfTree}
use Rattle.pc_word.specs.Naming.{map_name, map_names}

dest_renumbered : (f : ℕ → ℕ) (item : Item) → dest_of (map_names f item) ≡ option_map f (dest_of item)
dest_renumbered f (Bin op dest left right) = refl
dest_renumbered f (Copy dest from) = refl
dest_renumbered f (Load dest array index) = refl
dest_renumbered f (Store array index value) = refl
dest_renumbered f (Print value) = refl
dest_renumbered f (Read dest) = refl
dest_renumbered f (More dest) = refl

-- what holds of the name that is written, if any
abbrev OfDest : (ℕ → Type 0) → Option ℕ → Type 0
OfDest P (Some d) = P d
OfDest P None = Unit {0}

of_dest : (P : ℕ → Type 0) (item : Item) → OfItem P item → OfDest P (dest_of item)
of_dest P (Bin op dest left right) h = h.0
of_dest P (Copy dest from) h = h.0
of_dest P (Load dest array index) h = h.0
of_dest P (Store array index value) h = tt
of_dest P (Print value) h = tt
of_dest P (Read dest) h = h
of_dest P (More dest) h = h

-- names with their new ones
abbrev pub with_new : (ℕ → ℕ) → List ℕ → List Pair
with_new f xs = side_by_side xs (map f xs)

pub new_ones : (f : ℕ → ℕ) (xs : List ℕ) → ones (with_new f xs) ≡ xs
new_ones f [] = refl
new_ones f (x ∷ xs) = ap (λ (list : List ℕ). x ∷ list) (new_ones f xs)

pub new_others : (f : ℕ → ℕ) (xs : List ℕ) → others (with_new f xs) ≡ map f xs
new_others f [] = refl
new_others f (x ∷ xs) = ap (λ (list : List ℕ). f x ∷ list) (new_others f xs)

pub each_new : (f : ℕ → ℕ) (P : ℕ → Type 0) (R : ℕ → ℕ → Type 0) → ((x : ℕ) → P x → R x (f x)) → (xs : List ℕ) → AllByRecursion P xs → EachPair (with_new f xs) R
each_new f P R h [] all = tt
each_new f P R h (x ∷ xs) all = (h x all.0, each_new f P R h xs all.1)

-- ---- each new name is below a number

module _ (f : ℕ → ℕ) (n : ℕ) (P : ℕ → Type 0) (below : (x : ℕ) → P x → f x < n) where
  operand_below : (o : Operand) → OfOperand P o → OperandBelow n (map_name f o)
  operand_below (Name x) h = below x h
  operand_below (Lit value) h = tt

  item_below : (item : Item) → OfItem P item → ItemBelow n (map_names f item)
  item_below (Bin op dest left right) h = (below dest h.0, operand_below left h.1, operand_below right h.2)
  item_below (Copy dest from) h = (below dest h.0, operand_below from h.1)
  item_below (Load dest array index) h = (below dest h.0, operand_below index h.1)
  item_below (Store array index value) h = (operand_below index h.0, operand_below value h.1)
  item_below (Print value) h = operand_below value h
  item_below (Read dest) h = below dest h
  item_below (More dest) h = below dest h

  homes_below : (homes : List Home) → OfHomes P homes → StubBelow n (placed_homes f homes)
  homes_below [] h = tt
  homes_below (home ∷ homes) h = (operand_below home.value h.0, homes_below homes h.1)

  pub tree_below : (tree : Tree) → OfTree P tree → TreeBelow n (renumbered_tree f tree)
  tree_below (Pending tag origin item rest) h = (item_below item h.0, tree_below rest h.1)
  tree_below (Undecided tag origin on one other) h = (operand_below on h.0, tree_below one h.1, tree_below other h.2)
  tree_below (Exit region tag homes) h = homes_below homes h
  tree_below Stop_exit h = tt
  tree_below (Trap_exit kind line) h = tt

module _ (f : ℕ → ℕ) (P : ℕ → Type 0) (apart : (x y : ℕ) → P x → P y → nat_eq (f x) (f y) ≡ nat_eq x y) where
  -- ---- scopes

  -- the new name of each name is known where it is
  abbrev KnownAlike : (ℕ → Bool) → (ℕ → Bool) → Type 0
  KnownAlike known known' = (x : ℕ) → P x → known' (f x) ≡ known x

  module _ (known known' : ℕ → Bool) (same : KnownAlike known known') where
    operand_known : (o : Operand) → OfOperand P o → IsKnown known o → IsKnown known' (map_name f o)
    operand_known (Name x) h k = same x h ∙ k
    operand_known (Lit value) h k = tt

    item_known : (item : Item) → OfItem P item → ReadsKnown known item → ReadsKnown known' (map_names f item)
    item_known (Bin op dest left right) h k = (operand_known left h.1 k.0, (operand_known right h.2 k.1.0, tt))
    item_known (Copy dest from) h k = (operand_known from h.1 k.0, tt)
    item_known (Load dest array index) h k = (operand_known index h.1 k.0, tt)
    item_known (Store array index value) h k = (operand_known index h.0 k.0, (operand_known value h.1 k.1.0, tt))
    item_known (Print value) h k = (operand_known value h k.0, tt)
    item_known (Read dest) h k = tt
    item_known (More dest) h k = tt

    homes_known : (homes : List Home) → OfHomes P homes → HomesKnown known homes → HomesKnown known' (placed_homes f homes)
    homes_known [] h k = tt
    homes_known (home ∷ homes) h k = (operand_known home.value h.0 k.0, homes_known homes h.1 k.1)

    new_alike : (d : Option ℕ) → OfDest P d → IsNew known d → IsNew known' (option_map f d)
    new_alike (Some d) h k = same d h ∙ k
    new_alike None h k = tt

    writes_alike : (d : Option ℕ) → OfDest P d → (x : ℕ) → P x → (writes (option_map f d) (f x) || known' (f x)) ≡ (writes d x || known x)
    writes_alike (Some d) h x p = λ i. apart d x h p i || same x p i
    writes_alike None h x p = same x p

  pub scoped_alike : (known known' : ℕ → Bool) (tree : Tree) → KnownAlike known known' → OfTree P tree → Scoped known tree → Scoped known' (renumbered_tree f tree)
  scoped_alike known known' (Pending tag origin item rest) same h k =
      let dest = of_dest P item h.0 in (
        item_known known known' same item h.0 k.0,
        subst (IsNew known') (sym (dest_renumbered f item)) (new_alike known known' same (dest_of item) dest k.1),
        scoped_alike (and_dest known item) (and_dest known' (map_names f item)) rest
            (λ x p. ap (λ (d : Option ℕ). writes d (f x) || known' (f x)) (dest_renumbered f item) ∙ writes_alike known known' same (dest_of item) dest x p)
            h.1 k.2,
      )
  scoped_alike known known' (Undecided tag origin on one other) same h k =
      (operand_known known known' same on h.0 k.0, scoped_alike known known' one same h.1 k.1, scoped_alike known known' other same h.2 k.2)
  scoped_alike known known' (Exit region tag homes) same h k = homes_known known known' same homes h k
  scoped_alike known known' Stop_exit same h k = tt
  scoped_alike known known' (Trap_exit kind line) same h k = tt

  -- ---- names that correspond

  -- each name corresponds to its new name
  abbrev Corresponds : List Pair → Type 0
  Corresponds pairs = (x : ℕ) → P x → corresponds pairs x (f x) ≡ true

  one_corresponds : (b c d : Bool) → b ≡ c → (c ≡ false → d ≡ true) → (if c then b else (not b && d)) ≡ true
  one_corresponds true true d e h = refl
  one_corresponds false false d e h = h refl
  one_corresponds true false d e h = absurd (cc)
  one_corresponds false true d e h = absurd (cc)

  more_correspond : (d : ℕ) (pairs : List Pair) → P d → Corresponds pairs → Corresponds ((record { one = d; other = f d }) ∷ pairs)
  more_correspond d pairs h all x p = one_corresponds (nat_eq (f d) (f x)) (nat_eq d x) (corresponds pairs x (f x)) (apart d x h p) (λ e. all x p)

  dest_corresponds : (d : Option ℕ) (pairs : List Pair) → OfDest P d → Corresponds pairs → Corresponds (defined pairs d (option_map f d))
  dest_corresponds (Some d) pairs h all = more_correspond d pairs h all
  dest_corresponds None pairs h all = all

  pub list_corresponds : (xs : List ℕ) → AllByRecursion P xs → (x : ℕ) → P x → has xs x ≡ true → corresponds (with_new f xs) x (f x) ≡ true
  list_corresponds [] all x p there = absurd (cc)
  list_corresponds (y ∷ ys) all x p there =
      one_corresponds (nat_eq (f y) (f x)) (nat_eq y x) (corresponds (with_new f ys) x (f x)) (apart y x all.0 p) (λ e. list_corresponds ys all.1 x p (behind (nat_eq y x) (has ys x) e there))
    where
      behind : (b c : Bool) → b ≡ false → (b || c) ≡ true → c ≡ true
      behind false c e h = h
      behind true c e h = absurd (cc)

  -- ---- trees

  module _ (maps : Maps) (forms forms' : ℕ → Form) (tags : maps.shift ≡ maps.other_shift)
      (alike : (x : ℕ) → P x → FormsAlike maps.variables (forms x) (forms' (f x))) where
    operands_alike : (pairs : List Pair) → Corresponds pairs → (o : Operand) → OfOperand P o → OperandsAlike pairs o (map_name f o)
    operands_alike pairs all (Name x) h = all x h
    operands_alike pairs all (Lit value) h = refl

    items_alike : (pairs : List Pair) → Corresponds pairs → (item : Item) → OfItem P item → ItemsAlike pairs item (map_names f item)
    items_alike pairs all (Bin op dest left right) h = both_bin (operands_alike pairs all left h.1) (operands_alike pairs all right h.2)
    items_alike pairs all (Copy dest from) h = both_copy (operands_alike pairs all from h.1)
    items_alike pairs all (Load dest array index) h = both_load (operands_alike pairs all index h.1)
    items_alike pairs all (Store array index value) h = both_store (operands_alike pairs all index h.0) (operands_alike pairs all value h.1)
    items_alike pairs all (Print value) h = both_print (operands_alike pairs all value h)
    items_alike pairs all (Read dest) h = both_read
    items_alike pairs all (More dest) h = both_more

    homes_alike : (pairs : List Pair) → Corresponds pairs → (homes : List Home) → OfHomes P homes → HomesAlike pairs homes (placed_homes f homes)
    homes_alike pairs all [] h = tt
    homes_alike pairs all (home ∷ homes) h = (refl, operands_alike pairs all home.value h.0, homes_alike pairs all homes h.1)

    dests_alike : (d : Option ℕ) → OfDest P d → DestsAlike maps forms forms' d (option_map f d)
    dests_alike (Some d) h = alike d h
    dests_alike None h = tt

    pub trees_alike : (pairs : List Pair) → Corresponds pairs → (tree : Tree) → OfTree P tree → TreesAlike maps forms forms' pairs tree (renumbered_tree f tree)
    trees_alike pairs all (Pending tag origin item rest) h =
        let dest = of_dest P item h.0 in
        both_then (ap (λ (n : ℕ). tag + n) tags) (items_alike pairs all item h.0)
        (subst (λ (d : Option ℕ). DestsAlike maps forms forms' (dest_of item) d) (sym (dest_renumbered f item)) (dests_alike (dest_of item) dest))
        (subst (λ (d : Option ℕ). TreesAlike maps forms forms' (defined pairs (dest_of item) d) rest (renumbered_tree f rest)) (sym (dest_renumbered f item))
        (trees_alike (defined pairs (dest_of item) (option_map f (dest_of item))) (dest_corresponds (dest_of item) pairs dest all) rest h.1))
    trees_alike pairs all (Undecided tag origin on one other) h =
        both_either (ap (λ (n : ℕ). tag + n) tags) (operands_alike pairs all on h.0) (trees_alike pairs all one h.1) (trees_alike pairs all other h.2)
    trees_alike pairs all (Exit region tag homes) h = both_exit (ap (λ (n : ℕ). tag + n) tags) (homes_alike pairs all homes h)
    trees_alike pairs all Stop_exit h = both_stop
    trees_alike pairs all (Trap_exit kind line) h = both_trap
