-- What a walk of a tree adds to a list of names.
use Rattle.std.proofs.Common.{◌≡◌, ◌≢◌, ◌⊎◌, inl, inr, ℕ, zero, suc, ◌<◌, List, [], ◌∷◌, ◌++◌, Option, Some, None, length, refl, sym, ◌∙◌, ap, subst}
use Rattle.std.specs.Prelude.{Bool, true, false, if◌then◌else◌, nat_eq, slice_set}
use Rattle.std.proofs.lemmas.List.{get_or-set_same, get_or-set_other, set-get_or}
use Rattle.std.proofs.lemmas.Bool.Decides.{eqb_tells}
use Rattle.pc_word.specs.declared.item.Item.{Item}
use Rattle.pc_word.specs.declared.item.Operand.{Operand}
use Rattle.pc_word.specs.Items.{dest_of, operands_of}
use Rattle.pc_window.specs.Tree.{Tree, Pending, Undecided}
use Rattle.pc_window.specs.Names.{name_in, names_among, names_read, without_name, free_uses, named, definitions_of}
use Rattle.pc_window.specs.Opening.{OperandsBelow, NamesBelow, ItemBelow, TreeBelow}
use Rattle.pc_window.specs.models.Listing.{is_marked, unmarked, and_name, and_names}

-- ---- one list behind another

pub and_names-append : (found xs ys : List ℕ) → and_names found (xs ++ ys) ≡ and_names (and_names found xs) ys
and_names-append found [] ys = refl
and_names-append found (x ∷ xs) ys = and_names-append (and_name found x) xs ys

unmarked-append : (marks : List Bool) (xs ys : List ℕ) → unmarked marks (xs ++ ys) ≡ unmarked marks xs ++ unmarked marks ys
unmarked-append marks [] ys = refl
unmarked-append marks (x ∷ xs) ys = by (is_marked marks x) (unmarked-append marks xs ys)
  where
    by : (b : Bool) → unmarked marks (xs ++ ys) ≡ unmarked marks xs ++ unmarked marks ys
        → (if b then unmarked marks (xs ++ ys) else x ∷ unmarked marks (xs ++ ys)) ≡ (if b then unmarked marks xs else x ∷ unmarked marks xs) ++ unmarked marks ys
    by true h = h
    by false h = ap (λ (list : List ℕ). x ∷ list) h

-- the names of two lists, one after the other
both_used : (marks : List Bool) (found mid new xs ys : List ℕ) → mid ≡ and_names found (unmarked marks xs) → new ≡ and_names mid (unmarked marks ys)
    → new ≡ and_names found (unmarked marks (xs ++ ys))
both_used marks found mid new xs ys first second =
    second ∙ ap (λ (list : List ℕ). and_names list (unmarked marks ys)) first ∙ sym (and_names-append found (unmarked marks xs) (unmarked marks ys))
    ∙ ap (and_names found) (sym (unmarked-append marks xs ys))

pub two_used : (marks : List Bool) (found mid new : List ℕ) (one other : Operand) → mid ≡ and_names found (unmarked marks (name_in one))
    → new ≡ and_names mid (unmarked marks (name_in other)) → new ≡ and_names found (unmarked marks (names_among (one ∷ other ∷ [])))
two_used marks found mid new one other first second = both_used marks found mid new (name_in one) (name_in other) first second

-- the names of one home more
pub home_used : (marks : List Bool) (found mid ys : List ℕ) (o : Operand) → mid ≡ and_names found (unmarked marks (name_in o))
    → and_names found (unmarked marks (name_in o ++ ys)) ≡ and_names mid (unmarked marks ys)
home_used marks found mid ys o first = sym (both_used marks found mid (and_names mid (unmarked marks ys)) (name_in o) ys first refl)

pub ruleset names = (two_used, home_used)

-- ---- marks on the path

-- a name that is marked besides is left out
marked_besides : (marks : List Bool) (dest : ℕ) (xs : List ℕ) → dest < length marks → unmarked (slice_set marks dest true) xs ≡ unmarked marks (without_name (Some dest) xs)
marked_besides marks dest [] there = refl
marked_besides marks dest (x ∷ xs) there = by (eqb_tells dest x) (marked_besides marks dest xs there)
  where
    by : ((nat_eq dest x ≡ true) × (dest ≡ x)) ⊎ ((nat_eq dest x ≡ false) × (dest ≢ x))
        → unmarked (slice_set marks dest true) xs ≡ unmarked marks (without_name (Some dest) xs)
        → (if is_marked (slice_set marks dest true) x then unmarked (slice_set marks dest true) xs else x ∷ unmarked (slice_set marks dest true) xs)
        ≡ unmarked marks (if nat_eq dest x then without_name (Some dest) xs else x ∷ without_name (Some dest) xs)
    by (inl same) h =
        ap (λ (b : Bool). if b then unmarked (slice_set marks dest true) xs else x ∷ unmarked (slice_set marks dest true) xs)
        (subst (λ (n : ℕ). is_marked (slice_set marks dest true) n ≡ true) same.1 (get_or-set_same marks dest true false there))
        ∙ h ∙ ap (λ (b : Bool). unmarked marks (if b then without_name (Some dest) xs else x ∷ without_name (Some dest) xs)) (sym same.0)
    by (inr apart) h =
        ap (λ (b : Bool). if b then unmarked (slice_set marks dest true) xs else x ∷ unmarked (slice_set marks dest true) xs)
        (get_or-set_other marks dest x true false (λ is. apart.1 (sym is)))
        ∙ ap (λ (list : List ℕ). if is_marked marks x then list else x ∷ list) h
        ∙ ap (λ (b : Bool). unmarked marks (if b then without_name (Some dest) xs else x ∷ without_name (Some dest) xs)) (sym apart.0)

without_none : (xs : List ℕ) → without_name None xs ≡ xs
without_none [] = refl
without_none (x ∷ xs) = ap (λ (list : List ℕ). x ∷ list) (without_none xs)

module _ (marks : List Bool) (found mid new : List ℕ) (tag origin : ℕ) (item : Item) (rest : Tree) (read : mid ≡ and_names found (unmarked marks (names_read item))) where
  -- past an item that writes a name
  pub past_item : (dest : ℕ) → dest_of item ≡ Some dest → dest < length marks → new ≡ and_names mid (unmarked (slice_set marks dest true) (free_uses rest))
      → new ≡ and_names found (unmarked marks (free_uses (Pending tag origin item rest)))
  past_item dest is there later =
      both_used marks found mid new (names_read item) (without_name (dest_of item) (free_uses rest)) read
      (later ∙ ap (and_names mid) (marked_besides marks dest (free_uses rest) there
      ∙ ap (λ (d : Option ℕ). unmarked marks (without_name d (free_uses rest))) (sym is)))

  -- past one that writes none
  pub past_quiet : dest_of item ≡ None → new ≡ and_names mid (unmarked marks (free_uses rest)) → new ≡ and_names found (unmarked marks (free_uses (Pending tag origin item rest)))
  past_quiet is later =
      both_used marks found mid new (names_read item) (without_name (dest_of item) (free_uses rest)) read
      (later ∙ ap (and_names mid) (ap (unmarked marks) (sym (without_none (free_uses rest))) ∙ ap (λ (d : Option ℕ). unmarked marks (without_name d (free_uses rest))) (sym is)))

-- past a test
pub past_test : (marks : List Bool) (found mid both new : List ℕ) (tag origin : ℕ) (on : Operand) (one other : Tree) → mid ≡ and_names found (unmarked marks (name_in on))
    → both ≡ and_names mid (unmarked marks (free_uses one)) → new ≡ and_names both (unmarked marks (free_uses other))
    → new ≡ and_names found (unmarked marks (free_uses (Undecided tag origin on one other)))
past_test marks found mid both new tag origin on one other first second third =
    both_used marks found mid new (name_in on) (free_uses one ++ free_uses other) first (both_used marks mid both new (free_uses one) (free_uses other) second third)

-- a mark that is as it was
pub restored : (marks mid : List Bool) (dest : ℕ) (before : Bool) → before ≡ is_marked marks dest → mid ≡ slice_set marks dest true → dest < length marks
    → slice_set mid dest before ≡ marks
restored marks mid dest before was is there =
    (λ i. slice_set (is i) dest (was i)) ∙ twice marks dest (is_marked marks dest) ∙ set-get_or marks dest false
  where
    twice : (list : List Bool) (at : ℕ) (b : Bool) → slice_set (slice_set list at true) at b ≡ slice_set list at b
    twice [] at b = refl
    twice (x ∷ list) zero b = refl
    twice (x ∷ list) (suc at) b = ap (λ (l : List Bool). x ∷ l) (twice list at b)

-- the name that an item writes is below a number, as all its names are
pub dest_below : (n : ℕ) (item : Item) (dest : ℕ) → ItemBelow n item → dest_of item ≡ Some dest → dest < n
dest_below n item dest h is = by (operands_of item) (subst (λ (d : Option ℕ). NamesBelow n d (operands_of item)) is h)
  where
    by : (operands : List Operand) → NamesBelow n (Some dest) operands → dest < n
    by [] h = h
    by (o ∷ []) h = h.0
    by (o ∷ p ∷ operands) h = h.0

-- what it reads is as well
pub operands_below : (n : ℕ) (item : Item) → ItemBelow n item → OperandsBelow n (operands_of item)
operands_below n item h = by (dest_of item) (operands_of item) h
  where
    by : (dest : Option ℕ) (operands : List Operand) → NamesBelow n dest operands → OperandsBelow n operands
    by None operands h = h
    by (Some dest) [] h = tt
    by (Some dest) (o ∷ []) h = h.1
    by (Some dest) (o ∷ p ∷ operands) h = (h.1, h.2)

-- names are below the number of marks where it is the same
pub set_below : (marks : List Bool) (dest : ℕ) (b : Bool) (tree : Tree) → TreeBelow (length marks) tree → TreeBelow (length (slice_set marks dest b)) tree
set_below marks dest b tree h = subst (λ (n : ℕ). TreeBelow n tree) (sym (as_many marks dest)) h
  where
    as_many : (list : List Bool) (at : ℕ) → length (slice_set list at b) ≡ length list
    as_many [] at = refl
    as_many (x ∷ list) zero = refl
    as_many (x ∷ list) (suc at) = ap suc (as_many list at)

pub same_below : (marks mid : List Bool) (tree : Tree) → mid ≡ marks → TreeBelow (length marks) tree → TreeBelow (length mid) tree
same_below marks mid tree is h = subst (λ (list : List Bool). TreeBelow (length list) tree) (sym is) h

pub ruleset paths = (past_item, past_quiet, past_test, restored, dest_below, set_below, same_below)

-- ---- definitions

module _ (found mid new : List ℕ) (tag origin : ℕ) where
  pub item_defines : (item : Item) (rest : Tree) (dest : ℕ) → dest_of item ≡ Some dest → mid ≡ and_name found dest → new ≡ and_names mid (definitions_of rest)
      → new ≡ and_names found (definitions_of (Pending tag origin item rest))
  item_defines item rest dest is first second =
      second ∙ ap (λ (list : List ℕ). and_names list (definitions_of rest)) first ∙ ap (λ (d : Option ℕ). and_names found (named d (definitions_of rest))) (sym is)

  pub item_defines_none : (item : Item) (rest : Tree) → dest_of item ≡ None → new ≡ and_names found (definitions_of rest)
      → new ≡ and_names found (definitions_of (Pending tag origin item rest))
  item_defines_none item rest is later = later ∙ ap (λ (d : Option ℕ). and_names found (named d (definitions_of rest))) (sym is)

  pub sides_define : (on : Operand) (one other : Tree) → mid ≡ and_names found (definitions_of one) → new ≡ and_names mid (definitions_of other)
      → new ≡ and_names found (definitions_of (Undecided tag origin on one other))
  sides_define on one other first second =
      second ∙ ap (λ (list : List ℕ). and_names list (definitions_of other)) first ∙ sym (and_names-append found (definitions_of one) (definitions_of other))

pub ruleset definitions = (item_defines, item_defines_none, sides_define)
