-- The pressure of a row, item by item.
use Rattle.std.proofs.Common.{◌≡◌, ℕ, suc, ◌+◌, ◌≤◌, max, List, Option, Some, None, length, sym, ◌∙◌, ap, arith}
use Rattle.std.specs.Prelude.{count_by}
use Rattle.std.proofs.lemmas.List.Sums.{count_by-le-length}
use Rattle.pc_word.specs.declared.item.Item.{Item}
use Rattle.pc_word.specs.Row.{Row, Then, Either, At_leaf}
use Rattle.pc_word.specs.Items.{dest_of}
use Rattle.pc_automaton.specs.declared.automaton.AutomatonLeaf.{AutomatonLeaf}
use Rattle.pc_assign.specs.Uses.{row_uses}
use Rattle.pc_automaton.specs.Automaton.{AutomatonState}
use Rattle.pc_assign.specs.Pressure.{definitions_with, item_pressure, row_pressure, pressure_of}
use Rattle.pc_assign.specs.models.Choosing.{definitions_in}

module _ (parameters : List ℕ) (above : ℕ) where
  -- an item that defines a name
  pub defining_pressure : (whole rest : Row AutomatonLeaf) (item : Item) (dest next here below live : ℕ) → whole ≡ Then item rest
      → dest_of item ≡ Some dest → next ≡ above + 1
      → here ≡ suc above + count_by (row_uses rest) parameters → below ≡ row_pressure parameters next rest → live ≡ max here below
      → live ≡ row_pressure parameters above whole
  defining_pressure whole rest item dest next here below live is some one at under most =
      let raised : next ≡ suc above = omega (arith, one) in
      most ∙ (λ i. max (at i) ((under ∙ ap (λ (n : ℕ). row_pressure parameters n rest) raised) i))
      ∙ ap (λ (found : Option ℕ). max (item_pressure parameters above rest found) (row_pressure parameters (definitions_with found above) rest)) (sym some)
      ∙ ap (row_pressure parameters above) (sym is)

  -- an item that defines none
  pub other_pressure : (whole rest : Row AutomatonLeaf) (item : Item) (live : ℕ) → whole ≡ Then item rest → dest_of item ≡ None
      → live ≡ row_pressure parameters above rest → live ≡ row_pressure parameters above whole
  other_pressure whole rest item live is none under =
      under ∙ no_more (row_pressure parameters above rest)
      ∙ ap (λ (found : Option ℕ). max (item_pressure parameters above rest found) (row_pressure parameters (definitions_with found above) rest)) (sym none)
      ∙ ap (row_pressure parameters above) (sym is)
    where
      no_more : (n : ℕ) → n ≡ max 0 n
      no_more n = omega arith

-- the definitions below an item
pub definitions_some : (whole rest : Row AutomatonLeaf) (item : Item) (dest : ℕ) → whole ≡ Then item rest → dest_of item ≡ Some dest
    → definitions_in whole ≡ suc (definitions_in rest)
definitions_some whole rest item dest is some = ap definitions_in is ∙ ap (λ (found : Option ℕ). definitions_with found (definitions_in rest)) some

pub definitions_none : (whole rest : Row AutomatonLeaf) (item : Item) → whole ≡ Then item rest → dest_of item ≡ None
    → definitions_in whole ≡ definitions_in rest
definitions_none whole rest item is none = ap definitions_in is ∙ ap (λ (found : Option ℕ). definitions_with found (definitions_in rest)) none

-- ---- few names

-- no item's pressure is above what is defined and the parameters
row_pressure-most : (parameters : List ℕ) (above : ℕ) (row : Row AutomatonLeaf) → row_pressure parameters above row ≤ above + (definitions_in row + length parameters)
row_pressure-most parameters above (Then item rest) = by (λ n. row_pressure-most parameters n rest) (dest_of item)
  where
    by : ((n : ℕ) → row_pressure parameters n rest ≤ n + (definitions_in rest + length parameters)) → (found : Option ℕ)
        → max (item_pressure parameters above rest found) (row_pressure parameters (definitions_with found above) rest)
        ≤ above + (definitions_with found (definitions_in rest) + length parameters)
    by later None = let below = later above in omega (arith, below)
    by later (Some dest) = let here = count_by-le-length (row_uses rest) parameters in let below = later (suc above) in omega (arith, here, below)
row_pressure-most parameters above (Either on on_yes on_no) =
    let yes = row_pressure-most parameters above on_yes in let no = row_pressure-most parameters above on_no in omega (arith, yes, no)
row_pressure-most parameters above (At_leaf leaf) = omega arith

-- a state with no more names than there are registers has a low pressure
pub few_low : (scratch : ℕ) (state : AutomatonState) (names : ℕ) → definitions_in state.row + length state.parameters ≡ names → names ≤ scratch
    → pressure_of state ≤ scratch
few_low scratch state names are few = let most = row_pressure-most state.parameters 0 state.row in omega (arith, are, few, most)

pub ruleset pressures = (defining_pressure, other_pressure, definitions_some, definitions_none)
