-- What holds of each name of a tree.
use Rattle.std.proofs.Common.{◌≡◌, ℕ, List, [], ◌∷◌, Option, Some, None, refl, ap, subst}
use Rattle.std.specs.Prelude.{Bool, true, false, not, ◌&&◌, ◌||◌, nat_eq}
use Rattle.std.specs.List.{AllByRecursion}
use Rattle.std.proofs.lemmas.Bool.{eqb-true}
use Rattle.pc_word.specs.declared.item.Item.{Item}
use Rattle.pc_word.specs.declared.item.Item.TheVariants.{Bin, Copy, Load, Store, Print, Read, More}
use Rattle.pc_word.specs.declared.item.Operand.{Operand}
use Rattle.pc_word.specs.declared.item.Operand.TheVariants.{Name, Lit}
use Rattle.pc_word.specs.Items.{dest_of, reads, reads_name}
use Rattle.pc_word.specs.Commit.{writes}
use Rattle.pc_word.proofs.Lists.{all_front, all_back}
use Rattle.pc_window.specs.declared.home.Home.{Home}
use Rattle.pc_window.specs.Tree.{Tree, Pending, Undecided, Exit, Stop_exit, Trap_exit}
use Rattle.pc_window.specs.Names.{homes_use, uses, named, definitions_of}
use Rattle.pc_window.proofs.Grafts.{nat_eq-same}
use Rattle.pc_word.proofs.Truth.{or_first, or_second}

-- ---- names that are read and written

-- of the name that an operand reads
abbrev pub OfOperand : (ℕ → Type 0) → Operand → Type 0
OfOperand P (Name x) = P x
OfOperand P (Lit value) = Unit {0}

-- of the names that an item reads and writes
abbrev pub OfItem : (ℕ → Type 0) → Item → Type 0
OfItem P (Bin op dest left right) = P dest × OfOperand P left × OfOperand P right
OfItem P (Copy dest from) = P dest × OfOperand P from
OfItem P (Load dest array index) = P dest × OfOperand P index
OfItem P (Store array index value) = OfOperand P index × OfOperand P value
OfItem P (Print value) = OfOperand P value
OfItem P (Read dest) = P dest
OfItem P (More dest) = P dest

-- of the names that homes read
abbrev pub OfHomes : (ℕ → Type 0) → List Home → Type 0
OfHomes P [] = Unit {0}
OfHomes P (home ∷ homes) = OfOperand P home.value × OfHomes P homes

-- of all names of a tree
abbrev pub OfTree : (ℕ → Type 0) → Tree → Type 0
OfTree P (Pending tag origin item rest) = OfItem P item × OfTree P rest
OfTree P (Undecided tag origin on on_yes on_no) = OfOperand P on × OfTree P on_yes × OfTree P on_no
OfTree P (Exit region tag homes) = OfHomes P homes
OfTree P Stop_exit = Unit {0}
OfTree P (Trap_exit kind line) = Unit {0}

-- ---- what holds of all parameters and definitions

module _ (P : ℕ → Type 0) where
  of_operand : (o : Operand) → ((x : ℕ) → reads_name o x ≡ true → P x) → OfOperand P o
  of_operand (Name x) f = f x (nat_eq-same x)
  of_operand (Lit value) f = tt

  of_two : (l r : Operand) → ((x : ℕ) → (reads_name l x || reads_name r x) ≡ true → P x) → OfOperand P l × OfOperand P r
  of_two l r f = (of_operand l (λ x e. f x (or_first (reads_name l x) (reads_name r x) e)), of_operand r (λ x e. f x (or_second (reads_name l x) (reads_name r x) e)))

  of_item : (item : Item) → ((x : ℕ) → reads item x ≡ true → P x) → ((x : ℕ) → dest_of item ≡ Some x → P x) → OfItem P item
  of_item (Bin op dest left right) f g = let two = of_two left right f in (g dest refl, two.0, two.1)
  of_item (Copy dest from) f g = (g dest refl, of_operand from f)
  of_item (Load dest array index) f g = (g dest refl, of_operand index f)
  of_item (Store array index value) f g = of_two index value f
  of_item (Print value) f g = of_operand value f
  of_item (Read dest) f g = g dest refl
  of_item (More dest) f g = g dest refl

  of_homes : (homes : List Home) → ((x : ℕ) → homes_use homes x ≡ true → P x) → OfHomes P homes
  of_homes [] f = tt
  of_homes (home ∷ homes) f = (
    of_operand home.value (λ x e. f x (or_first (reads_name home.value x) (homes_use homes x) e)),
    of_homes homes (λ x e. f x (or_second (reads_name home.value x) (homes_use homes x) e)),
  )

  first_named : (d : Option ℕ) (xs : List ℕ) (x : ℕ) → AllByRecursion P (named d xs) → d ≡ Some x → P x
  first_named None xs x h e = absurd (cc)
  first_named (Some y) xs x h e = let same : y ≡ x = (cc) in subst P same h.0

  others_named : (d : Option ℕ) (xs : List ℕ) → AllByRecursion P (named d xs) → AllByRecursion P xs
  others_named None xs h = h
  others_named (Some y) xs h = h.1

  written_or_used : (d : Option ℕ) (xs : List ℕ) (a b : Bool) (x : ℕ) → AllByRecursion P (named d xs) → ((a || (not (writes d x) && b)) ≡ true → P x) → b ≡ true → P x
  written_or_used None xs a b x h f e = f (or_second a b e)
  written_or_used (Some y) xs a b x h f e = by (nat_eq y x) refl f
    where
      by : (c : Bool) → nat_eq y x ≡ c → ((a || (not c && b)) ≡ true → P x) → P x
      by true same f = first_named (Some y) xs x h (ap (λ (n : ℕ). Some n) (eqb-true y x same))
      by false apart f = f (or_second a b e)

  -- what holds of the names that a tree uses and of those that it defines holds of all its names
  pub of_tree : (tree : Tree) → ((x : ℕ) → uses tree x ≡ true → P x) → AllByRecursion P (definitions_of tree) → OfTree P tree
  of_tree (Pending tag origin item rest) f d = (
    of_item item (λ x e. f x (or_first (reads item x) (not (writes (dest_of item) x) && uses rest x) e)) (λ x. first_named (dest_of item) (definitions_of rest) x d),
    of_tree rest (λ x. written_or_used (dest_of item) (definitions_of rest) (reads item x) (uses rest x) x d (f x)) (others_named (dest_of item) (definitions_of rest) d),
  )
  of_tree (Undecided tag origin on one other) f d = (
    of_operand on (λ x e. f x (or_first (reads_name on x) (uses one x || uses other x) e)),
    of_tree one (λ x e. f x (or_second (reads_name on x) (uses one x || uses other x) (or_first (uses one x) (uses other x) e)))
        (all_front P (definitions_of one) (definitions_of other) d),
    of_tree other (λ x e. f x (or_second (reads_name on x) (uses one x || uses other x) (or_second (uses one x) (uses other x) e)))
        (all_back P (definitions_of one) (definitions_of other) d),
  )
  of_tree (Exit region tag homes) f d = of_homes homes f
  of_tree Stop_exit f d = tt
  of_tree (Trap_exit kind line) f d = tt
