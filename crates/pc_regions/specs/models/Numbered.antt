-- Nodes that are numbered in the order in which they are met.
use Rattle.std.specs.Prelude.{◌≡◌, ℕ, ◌≤◌, ◌⊎◌, List, [], ◌∷◌, ◌++◌, length, Option, Some, None, is_some, slice_get, replicate}
use Rattle.std.specs.List.{count_by}
use Rattle.pc_word.specs.SourceLimits.{most_nodes}

-- the number of each node that was met, by the node, and the node of each number
pub record Numbered : Type 0 where
  pub numbers : List (Option ℕ)
  pub order : List ℕ

-- each says the same, and there are as many numbers as nodes that were met
pub record IsNumbered (it : Numbered) : Type 0 where
  pub few_nodes : length it.numbers ≤ most_nodes
  pub as_many : length it.order ≡ count_by is_some it.numbers
  pub number_there : (node number : ℕ) → slice_get it.numbers node ≡ Some (Some number) → slice_get it.order number ≡ Some node
  pub node_there : (number node : ℕ) → slice_get it.order number ≡ Some node → slice_get it.numbers node ≡ Some (Some number)

-- no node of so many was met
abbrev pub nothing_met : ℕ → Numbered
nothing_met count = record { numbers = replicate count None; order = [] }

-- a node has this number: it had it before, or it is the next one
pub record Meets (old new : Numbered) (node number : ℕ) : Type 0 where
  pub there : slice_get new.order number ≡ Some node
  pub as_many_nodes : length new.numbers ≡ length old.numbers
  pub grown : (new.order ≡ old.order) ⊎ ((new.order ≡ old.order ++ node ∷ []) × (number ≡ length old.order))

-- what stood at a place of the first list stands there in the second
abbrev pub KeepsPlaces : List ℕ → List ℕ → Type 0
KeepsPlaces old new = (place at : ℕ) → slice_get old place ≡ Some at → slice_get new place ≡ Some at
