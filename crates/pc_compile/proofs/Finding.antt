-- Regions that are found in order, part by part.
use Rattle.std.proofs.Common.{◌≡◌, ℕ, suc, ◌+◌, Some, arith, drop, List, [], ◌∷◌, ◌++◌, refl, sym, ◌∙◌, ap, subst, append_assoc}
use Rattle.std.specs.Prelude.{slice_get}
use Rattle.std.specs.List.{AllByRecursion, flat_map}
use Rattle.pc_word.specs.Row.{Row, leaves_of}
use Rattle.pc_automaton.specs.declared.automaton.AutomatonLeaf.{AutomatonLeaf}
use Rattle.pc_word.proofs.Lists.{all_at}
use Rattle.pc_automaton.specs.declared.automaton.AutomatonState.{AutomatonState as StoredState}
use Rattle.pc_automaton.specs.Automaton.{AutomatonState, state_in, states_in}
use Rattle.pc_emit.specs.Leading.{leaf_leads, states_lead}
use Rattle.pc_compile.specs.Choosing.{with_region, with_regions}
use Rattle.pc_compile.specs.models.Marked.{Marked, Finds}
use Rattle.pc_word.specs.StoredRow.{row_in}
use Rattle.pc_word.proofs.Places.{drop_at, map_at}

-- regions of two lists are found one list after the other
pub with_both : (found regions others : List ℕ) → with_regions found (regions ++ others) ≡ with_regions (with_regions found regions) others
with_both found [] others = refl
with_both found (region ∷ regions) others = with_both (with_region found region) regions others

-- nothing is found
pub finds_none : (it : Marked) → Finds [] it it
finds_none it = record { order = refl; as_many = refl }

-- first some, then others
pub finds_both : (regions others : List ℕ) (old mid new : Marked) → Finds regions old mid → Finds others mid new → Finds (regions ++ others) old new
finds_both regions others old mid new first rest = record {
  order = rest.order ∙ ap (λ (found : List ℕ). with_regions found others) first.order ∙ sym (with_both old.order regions others);
  as_many = rest.as_many ∙ first.as_many;
}

-- what is led to from the elements of two lists
pub flat_both : {X : Type 0} (f : X → List ℕ) (xs ys : List X) → flat_map f (xs ++ ys) ≡ flat_map f xs ++ flat_map f ys
flat_both f [] ys = refl
flat_both f (x ∷ xs) ys = ap (λ (rest : List ℕ). f x ++ rest) (flat_both f xs ys) ∙ sym (append_assoc (f x) (flat_map f xs) (flat_map f ys))

-- the leaves of both sides of a test
pub finds_sides : (on_yes on_no : Row AutomatonLeaf) (old mid new : Marked) → Finds (flat_map leaf_leads (leaves_of on_yes)) old mid
    → Finds (flat_map leaf_leads (leaves_of on_no)) mid new → Finds (flat_map leaf_leads (leaves_of on_yes ++ leaves_of on_no)) old new
finds_sides on_yes on_no old mid new first rest =
    subst (λ (regions : List ℕ). Finds regions old new) (sym (flat_both leaf_leads (leaves_of on_yes) (leaves_of on_no)))
    (finds_both (flat_map leaf_leads (leaves_of on_yes)) (flat_map leaf_leads (leaves_of on_no)) old mid new first rest)

-- one leaf alone
pub finds_leaf : (leaf : AutomatonLeaf) (old new : Marked) → Finds (leaf_leads leaf) old new → Finds (leaf_leads leaf ++ []) old new
finds_leaf leaf old new h = subst (λ (regions : List ℕ). Finds regions old new) (sym (append_nil (leaf_leads leaf))) h
  where
    append_nil : (xs : List ℕ) → xs ++ [] ≡ xs
    append_nil [] = refl
    append_nil (x ∷ xs) = ap (λ (rest : List ℕ). x ∷ rest) (append_nil xs)

-- the states from a place on: what the state there leads out to is found first
pub finds_state : (states : List StoredState) (number : ℕ) (state : StoredState) (old new : Marked) → slice_get states number ≡ Some state
    → Finds (flat_map leaf_leads (leaves_of (row_in (λ leaf. leaf) state.row))) old new
    → with_regions new.order (states_lead (states_in (drop (number + 1) states))) ≡ with_regions old.order (states_lead (states_in (drop number states)))
finds_state states number state old new here finds =
    let one : suc number ≡ number + 1 = omega arith in
    ap (λ (found : List ℕ). with_regions found (states_lead (states_in (drop (number + 1) states)))) finds.order
    ∙ sym (with_both old.order (flat_map leaf_leads (leaves_of (row_in (λ leaf. leaf) state.row))) (states_lead (states_in (drop (number + 1) states))))
    ∙ ap (λ (n : ℕ). with_regions old.order (flat_map leaf_leads (leaves_of (row_in (λ leaf. leaf) state.row)) ++ states_lead (states_in (drop n states)))) (sym one)
    ∙ ap (λ (rest : List StoredState). with_regions old.order (states_lead (states_in rest))) (sym (drop_at states number state here))

-- what holds of each state holds of one in memory
pub state_at : (P : AutomatonState → Type 0) (states : List StoredState) (number : ℕ) (state : StoredState) → slice_get states number ≡ Some state
    → AllByRecursion P (states_in states) → P (state_in state)
state_at P states number state here all = all_at P (states_in states) number (state_in state) all (map_at state_in states number state here)

pub ruleset finding = (finds_none, finds_both, finds_sides, finds_leaf)
