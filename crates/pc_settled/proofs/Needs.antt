-- Registers that are found to be needed are needed.
use Rattle.std.proofs.Common.{◌≡◌, ℕ, zero, suc, ◌<◌, ◌⊎◌, inl, inr, true, false, not, ◌&&◌, ◌||◌, List, [], ◌∷◌, ◌++◌, Some, refl, sym, ◌∙◌, ap, subst}
use Rattle.std.specs.Prelude.{slice_get, slice_set}
use Rattle.pc_word.specs.declared.item.Item.{Item}
use Rattle.pc_word.specs.declared.item.Operand.{Operand}
use Rattle.pc_word.specs.declared.row_tree.RowTree.{RowTree}
use Rattle.pc_word.specs.Items.{dest_of, reads_name}
use Rattle.pc_word.specs.Commit.{writes}
use Rattle.pc_word.specs.Row.{Then, Either, At_leaf}
use Rattle.pc_word.proofs.Places.{map_at}
use Rattle.pc_word.proofs.Truth.{and_true, not_true, or_true}
use Rattle.pc_machine.specs.declared.tree.Leaf.{Leaf}
use Rattle.pc_machine.specs.declared.tree.Leaf.TheVariants.{Goto, Stop, Trap}
use Rattle.pc_machine.specs.MachineCode.{CodeRow, row_of, rows_of, target_of}
use Rattle.pc_settled.specs.declared.register_set.RegisterSet.{RegisterSet}
use Rattle.pc_settled.specs.declared.liveness.RowNeeds.{RowNeeds}
use Rattle.pc_settled.specs.Needed.{Needs, To_read, To_pass, Passes, Past, Yes_passes, No_passes, By_goto, Reads, By_item, Below, By_test, Yes_reads, No_reads, Counts, Does_more, Is_passed}
use Rattle.pc_settled.specs.models.Sets.{member, set_at}
use Rattle.pc_settled.specs.models.Found.{AreNeeded, CountsBy, IsAbove, IsPassed, FindsNeeds, IsBehind}
use Rattle.pc_settled.proofs.Bits.{none_is}

-- ---- the sets of rows

-- what is listed where one set was replaced: that one, at its place, or what was listed
listed : (sets : List RegisterSet) (at number : ℕ) (new : RegisterSet)
    → (set_at (slice_set sets at new) number ≡ set_at sets number) ⊎ ((number ≡ at) × (set_at (slice_set sets at new) number ≡ new))
listed [] at number new = inl refl
listed (set ∷ sets) zero zero new = inr (refl, refl)
listed (set ∷ sets) zero (suc number) new = inl refl
listed (set ∷ sets) (suc at) zero new = inl refl
listed (set ∷ sets) (suc at) (suc number) new = elim (listed sets at number new) [
  | inl same ↦ inl same
  | inr there ↦ inr (ap suc there.0, there.1)
]

-- a set more
pub put_is_needed : (rows : List CodeRow) (sets : List RegisterSet) (at : ℕ) (new : RegisterSet) → AreNeeded rows sets
    → ((x : ℕ) → x < 256 → member new x ≡ true → Needs rows at x) → AreNeeded rows (slice_set sets at new)
put_is_needed rows sets at new found needed = record {
  needed = λ number x small has. elim (listed sets at number new) [
    | inl same ↦ found.needed number x small (subst (λ (set : RegisterSet). member set x ≡ true) same has)
    | inr there ↦ subst (λ (n : ℕ). Needs rows n x) (sym there.0) (needed x small (subst (λ (set : RegisterSet). member set x ≡ true) there.1 has))
  ];
}

-- ---- a row

-- the set of no register has none
pub nothing_in_none : (set : RegisterSet) (x : ℕ) → ((y : ℕ) → member set y ≡ false) → member set x ≡ true → (A : Type 0) → A
nothing_in_none set x none has A = let clash = sym (none x) ∙ has in absurd (cc)

-- an item counts by what is passed on below it
item_counts : (rows : List CodeRow) (item : Item) (row : CodeRow) (passed : RegisterSet)
    → ((x : ℕ) → x < 256 → member passed x ≡ true → IsPassed rows row x) → CountsBy item passed → Counts rows item row
item_counts rows item row passed found (inl more) = Does_more more
item_counts rows item row passed found (inr (dest, small, is, has)) = Is_passed is (found dest small has).passes

-- with an item above
pub finds_above : (sets : List RegisterSet) (tree next : RowTree Leaf) (item : Item) (below : RowNeeds) (read passed : RegisterSet)
    → row_of tree ≡ Then item (row_of next) → FindsNeeds sets (row_of next) below → IsAbove item below read
    → ((x : ℕ) → x < 256 → member passed x ≡ (not (writes (dest_of item) x) && member below.passed x))
    → FindsNeeds sets (row_of tree) (record { read = read; passed = passed })
finds_above sets tree next item below read passed is found above past = rw is (record {
  read = λ rows needed x small has. elim (above x small has) [
    | inl lower ↦ Below (found.read rows needed x small lower)
    | inr here ↦ By_item here.0 (item_counts rows item (row_of next) below.passed (found.passed rows needed) here.1)
  ];
  passed = λ rows needed x small has.
      let both = and_true (not (writes (dest_of item) x)) (member below.passed x) (sym (past x small) ∙ has) in
      let on = found.passed rows needed x small both.1 in
      record { to = on.to; passes = Past (not_true (writes (dest_of item) x) both.0) on.passes };
})

-- with a test above
pub finds_either : (sets : List RegisterSet) (tree yes_side no_side : RowTree Leaf) (on : Operand) (one other : RowNeeds) (sides read passed : RegisterSet)
    → row_of tree ≡ Either on (row_of yes_side) (row_of no_side) → FindsNeeds sets (row_of yes_side) one → FindsNeeds sets (row_of no_side) other
    → ((x : ℕ) → member sides x ≡ (member one.read x || member other.read x))
    → ((x : ℕ) → x < 256 → member read x ≡ (reads_name on x || member sides x))
    → ((x : ℕ) → member passed x ≡ (member one.passed x || member other.passed x))
    → FindsNeeds sets (row_of tree) (record { read = read; passed = passed })
finds_either sets tree yes_side no_side on one other sides read passed is on_yes on_no sides_are reads_are passes_are = rw is (record {
  read = λ rows needed x small has. elim (or_true (reads_name on x) (member sides x) (sym (reads_are x small) ∙ has)) [
    | inl tested ↦ By_test tested
    | inr below ↦ elim (or_true (member one.read x) (member other.read x) (sym (sides_are x) ∙ below)) [
      | inl first ↦ Yes_reads (on_yes.read rows needed x small first)
      | inr second ↦ No_reads (on_no.read rows needed x small second)
    ]
  ];
  passed = λ rows needed x small has. elim (or_true (member one.passed x) (member other.passed x) (sym (passes_are x) ∙ has)) [
    | inl first ↦ let on = on_yes.passed rows needed x small first in record { to = on.to; passes = Yes_passes on.passes }
    | inr second ↦ let on = on_no.passed rows needed x small second in record { to = on.to; passes = No_passes on.passes }
  ];
})

-- a leaf that leads somewhere is a goto
pub leads_by_goto : (leaf : Leaf) (to : ℕ) → target_of leaf ≡ Some to → leaf ≡ Goto to
leads_by_goto (Goto row) to e = let same : row ≡ to = (cc) in ap Goto same
leads_by_goto Stop to e = absurd (cc)
leads_by_goto (Trap kind line) to e = absurd (cc)

-- what a leaf passes on
pub leaf_passes : (rows : List CodeRow) (leaf : Leaf) (x to : ℕ) → target_of leaf ≡ Some to → Needs rows to x → Passes rows (At_leaf leaf) x to
leaf_passes rows leaf x to leads needs = subst (λ (l : Leaf). Passes rows (At_leaf l) x to) (sym (leads_by_goto leaf to leads)) (By_goto needs)

pub finds_at_leaf : (sets : List RegisterSet) (tree : RowTree Leaf) (leaf : Leaf) (read passed : RegisterSet) → row_of tree ≡ At_leaf leaf
    → ((x : ℕ) → member read x ≡ false) → IsBehind sets leaf passed → FindsNeeds sets (row_of tree) (record { read = read; passed = passed })
finds_at_leaf sets tree leaf read passed is none behind = rw is (record {
  read = λ rows needed x small has. nothing_in_none read x none has (Reads rows (At_leaf leaf) x);
  passed = λ rows needed x small has.
      let there = behind.told x has in
      record { to = there.0; passes = leaf_passes rows leaf x there.0 there.1 (needed.needed there.0 x small there.2) };
})

-- the sets behind leaves
pub behind_goto : (sets : List RegisterSet) (leaf : Leaf) (to : ℕ) (set : RegisterSet) → target_of leaf ≡ Some to → set ≡ set_at sets to → IsBehind sets leaf set
behind_goto sets leaf to set leads is = record { told = λ x has. (to, leads, subst (λ (s : RegisterSet). member s x ≡ true) is has) }

pub behind_end : (sets : List RegisterSet) (leaf : Leaf) (set : RegisterSet) → ((x : ℕ) → member set x ≡ false) → IsBehind sets leaf set
behind_end sets leaf set none = record { told = λ x has. let clash = sym (none x) ∙ has in absurd (cc) }

-- ---- the rows

-- what is found of a row it needs
pub row_needs : (sets : List RegisterSet) (trees : List (RowTree Leaf)) (number x : ℕ) (tree : RowTree Leaf) (found : RowNeeds) → AreNeeded (rows_of trees) sets
    → slice_get trees number ≡ Some tree → FindsNeeds sets (row_of tree) found → x < 256
    → (member found.read x ≡ true) ⊎ (member found.passed x ≡ true) → Needs (rows_of trees) number x
row_needs sets trees number x tree found needed there finds small (inl read) =
    To_read (map_at row_of trees number tree there) (finds.read (rows_of trees) needed x small read)
row_needs sets trees number x tree found needed there finds small (inr passed) =
    To_pass (map_at row_of trees number tree there) (finds.passed (rows_of trees) needed x small passed).passes

-- where no register is listed
pub none_is_needed : (rows : List CodeRow) → AreNeeded rows []
none_is_needed rows = record { needed = λ number x small has. let clash = sym (none_is x) ∙ has in absurd (cc) }

-- a set more of no register
more_at : (sets : List RegisterSet) (set : RegisterSet) (number x : ℕ) → ((y : ℕ) → member set y ≡ false)
    → member (set_at (sets ++ set ∷ []) number) x ≡ true → member (set_at sets number) x ≡ true
more_at [] set zero x none has = let clash = sym (none x) ∙ has in absurd (cc)
more_at [] set (suc number) x none has = has
more_at (other ∷ sets) set zero x none has = has
more_at (other ∷ sets) set (suc number) x none has = more_at sets set number x none has

-- and of one row more none
pub none_more : (rows : List CodeRow) (sets : List RegisterSet) (set : RegisterSet) → AreNeeded rows sets → ((x : ℕ) → member set x ≡ false)
    → AreNeeded rows (sets ++ set ∷ [])
none_more rows sets set found none = record { needed = λ number x small has. found.needed number x small (more_at sets set number x none has) }

pub ruleset none_laws = (none_is_needed, none_more)

pub ruleset behind_laws = (behind_goto, behind_end)
