-- Names that are marked as known, one after the other.
use Rattle.std.specs.Prelude.{ℕ, Bool, ◌||◌, nat_eq, List, [], ◌∷◌}

-- these names, and one more
abbrev pub with_name : ℕ → (ℕ → Bool) → ℕ → Bool
with_name name known = λ x. nat_eq name x || known x

-- these names, and those of a list
abbrev pub with_names : List ℕ → (ℕ → Bool) → ℕ → Bool
with_names [] known = known
with_names (name ∷ names) known = with_names names (with_name name known)
