-- Tidied trees, with marks for what they use.
use Rattle.std.proofs.Common.{◌≡◌, ℕ, suc, ◌≤◌, List, [], Option, Some, None, length, refl, sym, ◌∙◌, ap, subst, arith}
use Rattle.std.specs.Prelude.{Bool, true, false, ◌||◌, if◌then◌else◌, replicate}
use Rattle.pc_word.specs.declared.item.Item.{Item}
use Rattle.pc_word.specs.declared.item.Item.TheVariants.{Bin, Copy, Load, Store, Print, Read, More}
use Rattle.pc_word.specs.declared.item.Limits.{Limits}
use Rattle.pc_word.specs.Items.{dest_of}
use Rattle.pc_word.specs.Commit.{writes}
use Rattle.pc_window.specs.declared.tree.WindowTree.{WindowTree}
use Rattle.pc_window.specs.declared.names.NameTable.{NameTable}
use Rattle.pc_window.specs.Tree.{Tree, Pending, Undecided, Exit, Stop_exit, Trap_exit, whole, tree_size}
use Rattle.pc_window.specs.Names.{uses, IsNew, and_dest, Scoped}
use Rattle.pc_window.specs.Opening.{TreeBelow}
use Rattle.pc_window.specs.Tidying.{above, tidied}
use Rattle.pc_window.specs.Steps.{Tidies, IsProper}
use Rattle.pc_window.specs.StoredWindow.{InNodes, tree_in, front_in, supply_in, window_in}
use Rattle.pc_window.proofs.Tidying.{tidied_tidy}
use Rattle.pc_window.proofs.Parameters.{parameters_known}
use Rattle.pc_window.proofs.WindowsStored.{single_window, whole_in}
use Rattle.pc_unify.specs.models.Marks.{is_marked, is_needed, Marks, WritesNone, SidesApart}
use Rattle.pc_window.proofs.Listed.{none_marked}

-- ---- items

-- an item that may go and is not needed goes
above_gone : (tag origin : ℕ) (item : Item) (rest : Tree) → is_needed (uses rest) item ≡ false → above tag origin item rest ≡ rest
above_gone tag origin (Bin op dest left right) rest h = ap (λ (b : Bool). if b then Pending tag origin (Bin op dest left right) rest else rest) h
above_gone tag origin (Copy dest from) rest h = absurd (cc)
above_gone tag origin (Load dest array index) rest h = ap (λ (b : Bool). if b then Pending tag origin (Load dest array index) rest else rest) h
above_gone tag origin (Store array index value) rest h = absurd (cc)
above_gone tag origin (Print value) rest h = absurd (cc)
above_gone tag origin (Read dest) rest h = absurd (cc)
above_gone tag origin (More dest) rest h = ap (λ (b : Bool). if b then Pending tag origin (More dest) rest else rest) h

-- any other stays
above_kept : (tag origin : ℕ) (item : Item) (rest : Tree) → is_needed (uses rest) item ≡ true → above tag origin item rest ≡ Pending tag origin item rest
above_kept tag origin (Bin op dest left right) rest h = ap (λ (b : Bool). if b then Pending tag origin (Bin op dest left right) rest else rest) h
above_kept tag origin (Copy dest from) rest h = refl
above_kept tag origin (Load dest array index) rest h = ap (λ (b : Bool). if b then Pending tag origin (Load dest array index) rest else rest) h
above_kept tag origin (Store array index value) rest h = refl
above_kept tag origin (Print value) rest h = refl
above_kept tag origin (Read dest) rest h = refl
above_kept tag origin (More dest) rest h = ap (λ (b : Bool). if b then Pending tag origin (More dest) rest else rest) h

-- ---- sides of tests

-- what was tidied uses nothing more
unused : (tree : Tree) (name : ℕ) → uses tree name ≡ false → uses (tidied tree) name ≡ false
unused tree name h = by (uses (tidied tree) name) refl
  where
    by : (b : Bool) → uses (tidied tree) name ≡ b → uses (tidied tree) name ≡ false
    by true is = let used = (tidied_tidy [] tree).fewer name is in absurd (cc)
    by false is = is

-- a name that is neither marked nor used on the yes side is not marked behind it
new_past : (old mid : List Bool) (one : Tree) (dest : Option ℕ) → Marks old mid (uses (tidied one)) → IsNew (is_marked old) dest → IsNew (uses one) dest → IsNew (is_marked mid) dest
new_past old mid one (Some dest) h new apart =
    h.marked dest ∙ ap (λ (b : Bool). b || uses (tidied one) dest) new ∙ unused one dest apart
new_past old mid one None h new apart = tt

-- the names that the no side writes are still not marked behind the yes side
pub side_unmarked : (old mid : List Bool) (one other : Tree) → Marks old mid (uses (tidied one)) → WritesNone (is_marked old) other → WritesNone (uses one) other
    → WritesNone (is_marked mid) other
side_unmarked old mid one (Pending tag origin item rest) h new apart =
    (new_past old mid one (dest_of item) h new.0 apart.0, side_unmarked old mid one rest h new.1 apart.1)
side_unmarked old mid one (Undecided tag origin on on_yes on_no) h new apart =
    (side_unmarked old mid one on_yes h new.0 apart.0, side_unmarked old mid one on_no h new.1 apart.1)
side_unmarked old mid one (Exit region tag homes) h new apart = tt
side_unmarked old mid one Stop_exit h new apart = tt
side_unmarked old mid one (Trap_exit kind line) h new apart = tt

-- names are below the number of marks, which stays the same
pub tree_below : (old mid : List Bool) (more : ℕ → Bool) (tree : Tree) → Marks old mid more → TreeBelow (length old) tree → TreeBelow (length mid) tree
tree_below old mid more tree h below = subst (λ (n : ℕ). TreeBelow n tree) (sym h.as_many) below

-- ---- windows

-- what is used on one side is known there, so no other side writes it
apart_by : (known : ℕ → Bool) (one : ℕ → Bool) → ((name : ℕ) → one name ≡ true → known name ≡ true) → (tree : Tree) → Scoped known tree → WritesNone one tree
apart_by known one fewer (Pending tag origin item rest) h =
    (new (dest_of item) h.1, apart_by (and_dest known item) one (λ name is. later (writes (dest_of item) name) (known name) (fewer name is)) rest h.2)
  where
    later : (a b : Bool) → b ≡ true → (a || b) ≡ true
    later true b is = refl
    later false b is = is

    new : (dest : Option ℕ) → IsNew known dest → IsNew one dest
    new (Some dest) h = by (one dest) refl
      where
        by : (b : Bool) → one dest ≡ b → one dest ≡ false
        by true is = let k = fewer dest is in absurd (cc)
        by false is = is
    new None h = tt
apart_by known one fewer (Undecided tag origin on on_yes on_no) h = (apart_by known one fewer on_yes h.1, apart_by known one fewer on_no h.2)
apart_by known one fewer (Exit region tag homes) h = tt
apart_by known one fewer Stop_exit h = tt
apart_by known one fewer (Trap_exit kind line) h = tt

sides_apart : (known : ℕ → Bool) (tree : Tree) → Scoped known tree → SidesApart tree
sides_apart known (Pending tag origin item rest) h = sides_apart (and_dest known item) rest h.2
sides_apart known (Undecided tag origin on on_yes on_no) h =
    (apart_by known (uses on_yes) (parameters_known on_yes known h.1) on_no h.2, sides_apart known on_yes h.1, sides_apart known on_no h.2)
sides_apart known (Exit region tag homes) h = tt
sides_apart known Stop_exit h = tt
sides_apart known (Trap_exit kind line) h = tt

module _ (tree : WindowTree) (names : NameTable) (limits : Limits) (inside : Option ℕ)
    (proper : IsProper (window_in (record { tree = tree; names = names; limits = limits; inside = inside }))) where
  pub names_below : (marks : List Bool) → length marks ≡ length names.forms → TreeBelow (length marks) (tree_in tree)
  names_below marks is = subst (λ (n : ℕ). TreeBelow n (tree_in tree)) (sym is) (subst (λ (t : Tree). TreeBelow (length names.forms) t) (whole_in tree) proper.names_below)

  pub apart : SidesApart (tree_in tree)
  apart = subst (λ (t : Tree). SidesApart t) (whole_in tree) (sides_apart (uses (whole (front_in tree))) (whole (front_in tree)) proper.window.scoped)

  pub is_tidied : (later : WindowTree) → tree_in later ≡ tidied (tree_in tree) → InNodes true later
      → Tidies (window_in (record { tree = tree; names = names; limits = limits; inside = inside })) (window_in (record { tree = later; names = names; limits = limits; inside = inside }))
  is_tidied later is single =
      single_window later names limits inside (record { tree = tidied (whole (front_in tree)); names = supply_in names })
      (λ i. record { tree = (is ∙ ap tidied (sym (whole_in tree))) i; names = supply_in names }) single

pub unmarked_first : (n : ℕ) (marks : List Bool) (tree : Tree) → marks ≡ replicate n false → WritesNone (is_marked marks) tree
unmarked_first n marks tree is = by tree
  where
    unmarked : (dest : Option ℕ) → IsNew (is_marked marks) dest
    unmarked (Some dest) = ap (λ (ms : List Bool). is_marked ms dest) is ∙ none_marked n dest
    unmarked None = tt

    by : (tree : Tree) → WritesNone (is_marked marks) tree
    by (Pending tag origin item rest) = (unmarked (dest_of item), by rest)
    by (Undecided tag origin on on_yes on_no) = (by on_yes, by on_no)
    by (Exit region tag homes) = tt
    by Stop_exit = tt
    by (Trap_exit kind line) = tt

-- a tidied tree is no larger
above_size : (tag origin : ℕ) (item : Item) (rest : Tree) → tree_size (above tag origin item rest) ≤ suc (tree_size rest)
above_size tag origin item rest = by (is_needed (uses rest) item) refl
  where
    by : (b : Bool) → is_needed (uses rest) item ≡ b → tree_size (above tag origin item rest) ≤ suc (tree_size rest)
    by true is = let same : tree_size (above tag origin item rest) ≡ suc (tree_size rest) = ap tree_size (above_kept tag origin item rest is) in omega arith
    by false is = let same : tree_size (above tag origin item rest) ≡ tree_size rest = ap tree_size (above_gone tag origin item rest is) in omega arith

pub tidied_size : (tree : Tree) → tree_size (tidied tree) ≤ tree_size tree
tidied_size (Pending tag origin item rest) =
    let one = above_size tag origin item (tidied rest) in
    let other = tidied_size rest in
    omega arith
tidied_size (Undecided tag origin on on_yes on_no) =
    let one = tidied_size on_yes in
    let other = tidied_size on_no in
    omega arith
tidied_size (Exit region tag homes) = omega arith
tidied_size Stop_exit = omega arith
tidied_size (Trap_exit kind line) = omega arith

pub no_larger : (tree later : WindowTree) → tree_in later ≡ tidied (tree_in tree) → tree_size (tree_in later) ≤ tree_size (tree_in tree)
no_larger tree later is = subst (λ (t : Tree). tree_size t ≤ tree_size (tree_in tree)) (sym is) (tidied_size (tree_in tree))

pub ruleset windows = (names_below, apart, is_tidied, unmarked_first, no_larger)
