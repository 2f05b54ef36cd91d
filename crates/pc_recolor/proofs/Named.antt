-- Rows that are named by leaves of rows before them are reachable.
use Rattle.std.proofs.Common.{◌≡◌, ◌⊎◌, ℕ, zero, suc, ◌+◌, ◌<◌, ◌≤◌, List, length, Some, ap, subst, inl, inr, arith}
use Rattle.std.specs.Prelude.{slice_get}
use Rattle.std.proofs.lemmas.List.Elements.{Contains-append_left, Contains-append_right}
use Rattle.pc_word.specs.declared.item.Item.{Item}
use Rattle.pc_word.specs.declared.item.Operand.{Operand}
use Rattle.pc_word.specs.declared.row_tree.RowTree.{RowTree}
use Rattle.pc_word.specs.Row.{Then, Either, At_leaf, leaves_of}
use Rattle.pc_machine.specs.declared.tree.Leaf.{Leaf}
use Rattle.pc_machine.specs.declared.tree.Leaf.TheVariants.{Goto}
use Rattle.pc_machine.specs.MachineCode.{CodeRow, row_of}
use Rattle.pc_machine.specs.Reachable.{HasLeafTo, IsReachable, Entry, Behind}
use Rattle.pc_tighten.specs.Tightened.{EachIsReachable}
use Rattle.pc_recolor.specs.models.Recoloring.{Names, AreNamed}
use Rattle.pc_renaming.proofs.Checked.{slice_get_below}

le_or_lt : (m n : ℕ) → (m ≤ n) ⊎ (n < m)
le_or_lt zero n = inl (omega arith)
le_or_lt (suc m) zero = inr (omega arith)
le_or_lt (suc m) (suc n) = elim (le_or_lt m n) [
  | inl le ↦ inl (omega (arith, le))
  | inr lt ↦ inr (omega (arith, lt))
]

-- ---- one row

module _ (tree : RowTree Leaf) (known : ℕ) where
  -- below an item
  pub names_below : (next : RowTree Leaf) (item : Item) (after : ℕ) → row_of tree ≡ Then item (row_of next) → Names (row_of next) known after → Names (row_of tree) known after
  names_below next item after is names = rw is (record { more = names.more; leads = names.leads })

  -- on one side and then on the other
  pub names_on_sides : (yes_side no_side : RowTree Leaf) (on : Operand) (between after : ℕ) → row_of tree ≡ Either on (row_of yes_side) (row_of no_side)
      → Names (row_of yes_side) known between → Names (row_of no_side) between after → Names (row_of tree) known after
  names_on_sides yes_side no_side on between after is first second = rw is (record {
    more = let a = first.more in let b = second.more in omega (arith, a, b);
    leads = λ number from below. either number from below (le_or_lt between number);
  })
    where
      either : (number : ℕ) → known ≤ number → number < after → (between ≤ number) ⊎ (number < between)
          → HasLeafTo (Either on (row_of yes_side) (row_of no_side)) number
      either number from below (inl late) = Contains-append_right (leaves_of (row_of yes_side)) (leaves_of (row_of no_side)) (Goto number) (second.leads number late below)
      either number from below (inr early) = Contains-append_left (leaves_of (row_of yes_side)) (leaves_of (row_of no_side)) (Goto number) (first.leads number from early)

  -- at a leaf that leads nowhere new
  pub names_none : (row : CodeRow) → Names row known known
  names_none row = record { more = omega arith; leads = λ number from below. absurd (omega (arith, from, below)) }

  -- at a leaf that leads to the next
  pub names_one : (leaf : Leaf) → row_of tree ≡ At_leaf leaf → leaf ≡ Goto known → Names (row_of tree) known (suc known)
  names_one leaf is goto = rw (is, goto) (record {
    more = omega arith;
    leads = λ number from below. let same : known ≡ number = omega (arith, from, below) in (0, omega arith, ap Goto same);
  })

-- ---- the rows

-- before any is seen, row 0 is named
pub entry_is_named : (rows : List CodeRow) → AreNamed rows 0 1
entry_is_named rows = record {
  within = omega arith;
  reachable = λ number below. let same : 0 ≡ number = omega (arith, below) in subst (λ n. IsReachable rows n) same Entry;
}

-- a row is seen that is named
pub one_more_is_seen : (rows : List CodeRow) (seen known after : ℕ) (row : CodeRow) → AreNamed rows seen known → seen < known → slice_get rows seen ≡ Some row
    → Names row known after → AreNamed rows (seen + 1) after
one_more_is_seen rows seen known after row named below at names = record {
  within = let more = names.more in omega (arith, below, more);
  reachable = λ number there. either number there (le_or_lt known number);
}
  where
    either : (number : ℕ) → number < after → (known ≤ number) ⊎ (number < known) → IsReachable rows number
    either number there (inl late) = Behind (named.reachable seen below) at (names.leads number late there)
    either number there (inr early) = named.reachable number early

-- once all are seen, each is reachable
pub all_are_reachable : (rows : List CodeRow) (seen known : ℕ) → AreNamed rows seen known → length rows ≤ seen → EachIsReachable rows
all_are_reachable rows seen known named some number row at =
    let below = slice_get_below rows number row at in
    let all = named.within in
    named.reachable number (omega (arith, below, all, some))

pub ruleset naming_laws = (names_below, names_on_sides, names_none, names_one)
