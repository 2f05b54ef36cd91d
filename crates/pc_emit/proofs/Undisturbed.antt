-- When a row of registers writes none that is still needed: registers as a function of names.
use Rattle.std.specs.Prelude.{◌≡◌, ◌≢◌, ℕ, true, List, Option, Some, None}
use Rattle.std.specs.List.{AllByRecursion}
use Rattle.pc_word.specs.Items.{dest_of}
use Rattle.pc_word.specs.Row.{Row, Then, Either, At_leaf}
use Rattle.pc_window.specs.Names.{named}
use Rattle.pc_window.specs.Rebasing.{is_in}
use Rattle.pc_automaton.specs.declared.automaton.AutomatonLeaf.{AutomatonLeaf}
use Rattle.pc_assign.specs.Uses.{row_uses}

-- the register of a name that is defined is not that of a name that is defined above it, nor that of a parameter that is used below
pub record DestIsUndisturbed (of : ℕ → ℕ) (parameters above : List ℕ) (rest : Row AutomatonLeaf) (dest : ℕ) : Type 0 where
  pub defined : AllByRecursion (λ name. of name ≢ of dest) above
  pub used : (name : ℕ) → is_in name parameters ≡ true → row_uses rest name ≡ true → of name ≢ of dest

-- the same where an item defines a name
abbrev pub IsUndisturbed : (ℕ → ℕ) → (parameters above : List ℕ) → Row AutomatonLeaf → Option ℕ → Type 0
IsUndisturbed of parameters above rest (Some dest) = DestIsUndisturbed of parameters above rest dest
IsUndisturbed of parameters above rest None = Unit {0}

-- so it is of each name that a row defines, below definitions of these names
abbrev pub StaysUndisturbed : (ℕ → ℕ) → (parameters above : List ℕ) → Row AutomatonLeaf → Type 0
StaysUndisturbed of parameters above (Then item rest) =
    IsUndisturbed of parameters above rest (dest_of item) × StaysUndisturbed of parameters (named (dest_of item) above) rest
StaysUndisturbed of parameters above (Either on on_yes on_no) = StaysUndisturbed of parameters above on_yes × StaysUndisturbed of parameters above on_no
StaysUndisturbed of parameters above (At_leaf leaf) = Unit {0}
