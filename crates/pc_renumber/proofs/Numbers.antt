-- A table of the new numbers of names tells their places.
use Rattle.std.proofs.Common.{◌≡◌, ◌≢◌, ◌⊎◌, inl, inr, ℕ, zero, suc, ◌<◌, List, [], ◌∷◌, ◌++◌, Option, Some, None, length, refl, sym, ◌∙◌, ap, subst, arith}
use Rattle.std.specs.Prelude.{Bool, true, false, ◌||◌, if◌then◌else◌, nat_eq, slice_index_or, slice_set}
use Rattle.std.proofs.lemmas.List.{get_or-set_same, get_or-set_other}
use Rattle.std.proofs.lemmas.Bool.Decides.{eqb_tells}
use Rattle.pc_window.specs.Unwinding.{or_zero}
use Rattle.pc_word.specs.declared.item.Item.{Item}
use Rattle.pc_word.specs.declared.item.Item.TheVariants.{Bin, Copy, Load, Store, Print, Read, More}
use Rattle.pc_word.specs.declared.item.Operand.{Operand}
use Rattle.pc_word.specs.declared.item.Operand.TheVariants.{Name, Lit}
use Rattle.pc_word.proofs.Truth.{or_false}
use Rattle.pc_window.specs.declared.home.Home.{Home}
use Rattle.pc_window.specs.Tree.{Tree, Pending, Undecided, Exit, Stop_exit, Trap_exit}
use Rattle.pc_window.specs.Rebasing.{is_in}
use Rattle.pc_window.proofs.Grafts.{nat_eq-same}
use Rattle.pc_window.specs.models.Listing.{and_name}
use Rattle.pc_window.proofs.Listed.{in_more}
use Rattle.pc_window.proofs.Walked.{dest_below, item_defines, item_defines_none}
use Rattle.pc_canon.specs.Canonical.{place_of, placed_homes}
use Rattle.pc_canon.proofs.Membership.{has, has_is}
use Rattle.pc_renumber.specs.Renumbering.{renumbered_tree}
use Rattle.pc_renumber.specs.models.Numbering.{number_in, place_if, AreNumbers}
use Rattle.pc_renumber.proofs.NamesOfTrees.{OfOperand, OfItem, OfHomes, OfTree}
use Rattle.pc_word.specs.Naming.{map_name, map_names}

-- ---- one name more

-- a name that is there stays at its place
place_before : (names more : List ℕ) (x : ℕ) → has names x ≡ true → place_of (names ++ more) x ≡ place_of names x
place_before [] more x h = absurd (cc)
place_before (y ∷ names) more x h = by (nat_eq y x) h (place_before names more x)
  where
    by : (b : Bool) → (b || has names x) ≡ true → (has names x ≡ true → place_of (names ++ more) x ≡ place_of names x)
        → (if b then 0 else suc (place_of (names ++ more) x)) ≡ (if b then 0 else suc (place_of names x))
    by true h next = refl
    by false h next = ap suc (next h)

-- a name that comes behind has the last place
place_last : (names : List ℕ) (x : ℕ) → has names x ≡ false → place_of (names ++ x ∷ []) x ≡ length names
place_last [] x h = ap (λ (b : Bool). if b then 0 else 1) (nat_eq-same x)
place_last (y ∷ names) x h =
    let parts = or_false (nat_eq y x) (has names x) h in
    ap (λ (b : Bool). if b then 0 else suc (place_of (names ++ x ∷ []) x)) parts.0 ∙ ap suc (place_last names x parts.1)

-- whether a name has a number
abbrev is_numbered : Option ℕ → Bool
is_numbered None = false
is_numbered (Some number) = true

module _ (numbers : List (Option ℕ)) (names : List ℕ) (name : ℕ) (are : AreNumbers numbers names) where
  numbered_there : (b : Bool) → is_numbered (slice_index_or numbers name None) ≡ b → is_in name names ≡ b
  numbered_there b is = by (is_in name names) ∙ sym (ap is_numbered (are.tells name)) ∙ is
    where
      by : (c : Bool) → c ≡ is_numbered (if c then Some (place_of names name) else None)
      by true = refl
      by false = refl

  pub no_more : (number : ℕ) → slice_index_or numbers name None ≡ Some number → names ≡ and_name names name
  no_more number is = sym (ap (λ (b : Bool). if b then names else names ++ name ∷ []) (numbered_there true (ap is_numbered is)))

  pub one_more : slice_index_or numbers name None ≡ None → names ++ name ∷ [] ≡ and_name names name
  one_more is = sym (ap (λ (b : Bool). if b then names else names ++ name ∷ []) (numbered_there false (ap is_numbered is)))

  pub one_numbered : (below : name < length numbers) → slice_index_or numbers name None ≡ None
      → AreNumbers (slice_set numbers name (Some (length names))) (names ++ name ∷ [])
  one_numbered below is = record { tells = λ x. by x (eqb_tells name x) }
    where
      out : is_in name names ≡ false
      out = numbered_there false (ap is_numbered is)

      others : (x : ℕ) → nat_eq name x ≡ false → nat_eq x name ≡ false
      others x e = grind arith

      kept : (x : ℕ) (b : Bool) → is_in x names ≡ b → (if b then Some (place_of names x) else None) ≡ (if b then Some (place_of (names ++ name ∷ []) x) else None)
      kept x true e = ap (λ (n : ℕ). Some n) (sym (place_before names (name ∷ []) x (has_is names x ∙ e)))
      kept x false e = refl

      or_none : (b : Bool) → (b || false) ≡ b
      or_none true = refl
      or_none false = refl

      by : (x : ℕ) → ((nat_eq name x ≡ true) × (name ≡ x)) ⊎ ((nat_eq name x ≡ false) × (name ≢ x))
          → slice_index_or (slice_set numbers name (Some (length names))) x None ≡ place_if (names ++ name ∷ []) x
      by x (inl same) =
          subst (λ (y : ℕ). slice_index_or (slice_set numbers name (Some (length names))) y None ≡ place_if (names ++ name ∷ []) y) same.1
          (get_or-set_same numbers name (Some (length names)) None below
          ∙ sym (ap (λ (b : Bool). if b then Some (place_of (names ++ name ∷ []) name) else None)
          (in_more name name names ∙ (λ i. out i || nat_eq-same name i))
          ∙ ap (λ (n : ℕ). Some n) (place_last names name (has_is names name ∙ out))))
      by x (inr apart) =
          get_or-set_other numbers name x (Some (length names)) None (λ e. apart.1 (sym e)) ∙ are.tells x ∙ kept x (is_in x names) refl
          ∙ ap (λ (b : Bool). if b then Some (place_of (names ++ name ∷ []) x) else None)
          (sym (in_more x name names ∙ (λ i. is_in x names || others x apart.0 i) ∙ or_none (is_in x names)))

pub ruleset numbering = (no_more, one_more, one_numbered)

pub ruleset definitions = (item_defines, item_defines_none, dest_below)

-- ---- no names

pub nothing_numbered : AreNumbers [] []
nothing_numbered = record { tells = λ x. refl }

pub none_more : (numbers : List (Option ℕ)) → AreNumbers numbers [] → AreNumbers (numbers ++ None ∷ []) []
none_more numbers are = record { tells = λ x. by numbers x (are.tells x) }
  where
    by : (list : List (Option ℕ)) (x : ℕ) → slice_index_or list x None ≡ None → slice_index_or (list ++ None ∷ []) x None ≡ None
    by [] zero h = refl
    by [] (suc x) h = refl
    by (n ∷ list) zero h = h
    by (n ∷ list) (suc x) h = by list x h

pub ruleset nothing = (nothing_numbered, none_more)

-- ---- a tree by the numbers of its names

module _ (f g : ℕ → ℕ) (P : ℕ → Type 0) (same : (x : ℕ) → P x → f x ≡ g x) where
  same_operand : (o : Operand) → OfOperand P o → map_name f o ≡ map_name g o
  same_operand (Name x) h = ap (λ (n : ℕ). Name n) (same x h)
  same_operand (Lit value) h = refl

  same_item : (item : Item) → OfItem P item → map_names f item ≡ map_names g item
  same_item (Bin op dest left right) h = λ i. Bin op (same dest h.0 i) (same_operand left h.1 i) (same_operand right h.2 i)
  same_item (Copy dest from) h = λ i. Copy (same dest h.0 i) (same_operand from h.1 i)
  same_item (Load dest array index) h = λ i. Load (same dest h.0 i) array (same_operand index h.1 i)
  same_item (Store array index value) h = λ i. Store array (same_operand index h.0 i) (same_operand value h.1 i)
  same_item (Print value) h = λ i. Print (same_operand value h i)
  same_item (Read dest) h = λ i. Read (same dest h i)
  same_item (More dest) h = λ i. More (same dest h i)

  same_homes : (homes : List Home) → OfHomes P homes → placed_homes f homes ≡ placed_homes g homes
  same_homes [] h = refl
  same_homes (home ∷ homes) h = λ i. record { variable = home.variable; value = same_operand home.value h.0 i } ∷ same_homes homes h.1 i

  same_tree : (tree : Tree) → OfTree P tree → renumbered_tree f tree ≡ renumbered_tree g tree
  same_tree (Pending tag origin item rest) h = λ i. Pending tag origin (same_item item h.0 i) (same_tree rest h.1 i)
  same_tree (Undecided tag origin on one other) h = λ i. Undecided tag origin (same_operand on h.0 i) (same_tree one h.1 i) (same_tree other h.2 i)
  same_tree (Exit region tag homes) h = ap (Exit region tag) (same_homes homes h)
  same_tree Stop_exit h = refl
  same_tree (Trap_exit kind line) h = refl

-- a tree whose names are all listed is renumbered by their places
pub by_places : (numbers : List (Option ℕ)) (names : List ℕ) → AreNumbers numbers names → (tree : Tree) → OfTree (λ x. is_in x names ≡ true) tree
    → renumbered_tree (number_in numbers) tree ≡ renumbered_tree (place_of names) tree
by_places numbers names are tree there =
    same_tree (number_in numbers) (place_of names) (λ x. is_in x names ≡ true)
    (λ x h. ap or_zero (are.tells x ∙ ap (λ (b : Bool). if b then Some (place_of names x) else None) h)) tree there
