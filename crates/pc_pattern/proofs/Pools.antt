-- What comes of the keys and of the windows that wait where the row of a state leads on.
use Rattle.std.proofs.Common.{◌≡◌, ℕ, ◌≤◌, ◌<◌, List, [], ◌∷◌, ◌++◌, length, length-append, ◌⊎◌, inl, inr, refl, subst, arith}
use Rattle.std.specs.Prelude.{Some, slice_get, Contains}
use Rattle.std.proofs.lemmas.List.Elements.{Contains-append_left, Contains-append_right, Contains-push}
use Rattle.pc_word.specs.declared.item.Operand.{Operand}
use Rattle.pc_word.specs.Row.{Row, leaves_of}
use Rattle.pc_window.specs.Tree.{whole}
use Rattle.pc_window.specs.Names.{parameters_of}
use Rattle.pc_window.specs.WindowRun.{Window}
use Rattle.pc_window.specs.Kept.{Left}
use Rattle.pc_canon.specs.Pairs.{Pair}
use Rattle.pc_canon.specs.Key.{key_of}
use Rattle.pc_automaton.specs.declared.automaton.AutomatonLeaf.{AutomatonLeaf}
use Rattle.pc_automaton.specs.declared.automaton.AutomatonLeaf.TheVariants.{To}
use Rattle.pc_pattern.specs.Searches.{Rules}
use Rattle.pc_pattern.specs.models.Renaming.{arguments_for}
use Rattle.pc_pattern.specs.models.Pools.{Pool, IsNumbered, numbered_known, numbered_new}
use Rattle.pc_pattern.specs.models.Leading.{WindowLeads, leads_member, leads_bare, LeftLeads, leads_rest, leads_region, leads_end, leads_trap}
use Rattle.pc_pattern.specs.models.Leading.{RowLeads, leads_plain, leads_written, leads_test, leads_leaf}
use Rattle.pc_pattern.proofs.Members.{slice_get_more}

-- ---- lists

-- the last of a list stands behind the others
pub last_in : {X : Type 0} (xs : List X) (x : X) → slice_get (xs ++ (x ∷ [])) (length xs) ≡ Some x
last_in [] x = refl
last_in (y ∷ xs) x = last_in xs x

-- ---- keys

-- each key is that of the window at its place
abbrev pub KeysStand : List Window → List (List ℕ) → Type 0
KeysStand final keys = (number : ℕ) (key : List ℕ) → slice_get keys number ≡ Some key
    → (member : Window) × (slice_get final number ≡ Some member) × (key_of member ≡ key)

-- the key of a window stands at its number
pub number_there : (pool later : Pool) (w : Window) (number : ℕ) → IsNumbered pool w number later → slice_get later.keys number ≡ Some (key_of w)
number_there pool later w number (numbered_known at) = at
number_there pool later w number (numbered_new new renumbers) = last_in pool.keys (key_of w)

-- keys stay where they are
abbrev pub KeysStay : Pool → Pool → Type 0
KeysStay pool later = (number : ℕ) (key : List ℕ) → slice_get pool.keys number ≡ Some key → slice_get later.keys number ≡ Some key

numbered_keys : {pool later : Pool} {w : Window} {number : ℕ} → IsNumbered pool w number later → KeysStay pool later
numbered_keys (numbered_known at) i key there = there
numbered_keys {pool} {w} (numbered_new new renumbers) i key there = slice_get_more pool.keys (key_of w ∷ []) i key there

window_keys : {written : List Pair} {pool later : Pool} {w : Window} {leaf : AutomatonLeaf} → WindowLeads written pool w leaf later → KeysStay pool later
window_keys (leads_member none numbered) = numbered_keys numbered
window_keys (leads_bare some) = λ i key there. there

left_keys : {rules : Rules} {written : List Pair} {pool later : Pool} {left : Left} {leaf : AutomatonLeaf} → LeftLeads rules written pool left leaf later
    → KeysStay pool later
left_keys (leads_rest brings leads) = window_keys leads
left_keys leads_region = λ i key there. there
left_keys leads_end = λ i key there. there
left_keys leads_trap = λ i key there. there

pub row_keys : {rules : Rules} {written : List Pair} {next later : ℕ} {pool after : Pool} {row : Row Left} {other : Row AutomatonLeaf}
    → RowLeads rules written next pool row other later after → KeysStay pool after
row_keys (leads_plain none leads) = row_keys leads
row_keys (leads_written some leads) = row_keys leads
row_keys (leads_test one other) = λ i key there. row_keys other i key (row_keys one i key there)
row_keys (leads_leaf leads) = left_keys leads

-- ---- what is reachable

-- a leaf of a row leads to a state
abbrev pub LeadsTo : Row AutomatonLeaf → ℕ → Type 0
LeadsTo row number = (arguments : List Operand) × Contains (leaves_of row) (To number arguments)

-- the leaves of a row lead to each member that comes of them
abbrev NewLedTo : Pool → Pool → List AutomatonLeaf → Type 0
NewLedTo pool later leaves = (number : ℕ) → length pool.keys ≤ number → number < length later.keys
    → (arguments : List Operand) × Contains leaves (To number arguments)

window_leads_to : {written : List Pair} {pool later : Pool} {w : Window} {leaf : AutomatonLeaf} → WindowLeads written pool w leaf later
    → NewLedTo pool later (leaf ∷ [])
window_leads_to (leads_member none (numbered_known at)) number from below = absurd (omega (arith, from, below))
window_leads_to {written} {pool} {w} (leads_member none (numbered_new new renumbers)) number from below =
    let many = length-append pool.keys (key_of w ∷ []) in
    let same : length pool.keys ≡ number = omega (arith, from, below, many) in
    let arguments = arguments_for written (parameters_of (whole w.front)) in
    (arguments, subst (λ (n : ℕ). Contains (To (length pool.keys) arguments ∷ []) (To n arguments)) same (Contains-push [] (To (length pool.keys) arguments)))
window_leads_to (leads_bare some) number from below = absurd (omega (arith, from, below))

left_leads_to : {rules : Rules} {written : List Pair} {pool later : Pool} {left : Left} {leaf : AutomatonLeaf}
    → LeftLeads rules written pool left leaf later → NewLedTo pool later (leaf ∷ [])
left_leads_to (leads_rest brings leads) = window_leads_to leads
left_leads_to leads_region = λ number from below. absurd (omega (arith, from, below))
left_leads_to leads_end = λ number from below. absurd (omega (arith, from, below))
left_leads_to leads_trap = λ number from below. absurd (omega (arith, from, below))

-- a number is below another, or not
pub either_side : (a b : ℕ) → (a < b) ⊎ (b ≤ a)
either_side a b = search arith

pub row_leads_to : {rules : Rules} {written : List Pair} {next later : ℕ} {pool after : Pool} {row : Row Left} {other : Row AutomatonLeaf}
    → RowLeads rules written next pool row other later after → NewLedTo pool after (leaves_of other)
row_leads_to (leads_plain none leads) number from below = row_leads_to leads number from below
row_leads_to (leads_written some leads) number from below = row_leads_to leads number from below
row_leads_to (leads_test {middle} {yes_row} {no_row} one other) number from below = elim (either_side number (length middle.keys)) [
  | inl first ↦ (
      let h = row_leads_to one number from first in
      (h.0, Contains-append_left (leaves_of yes_row) (leaves_of no_row) (To number h.0) h.1)
      )
  | inr last ↦ (
      let h = row_leads_to other number last below in
      (h.0, Contains-append_right (leaves_of yes_row) (leaves_of no_row) (To number h.0) h.1)
      )
]
row_leads_to (leads_leaf leads) number from below = left_leads_to leads number from below
