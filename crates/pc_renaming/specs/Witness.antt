-- What a witness in memory tells.
use Rattle.std.specs.Prelude.{ℕ, List, [], ◌∷◌, Option, Some, None, nat_eq, if◌then◌else◌, slice_get}
use Rattle.pc_renaming.specs.declared.witness.Holding.{Holding}
use Rattle.pc_renaming.specs.declared.witness.RowWitness.{RowWitness}
use Rattle.pc_renaming.specs.Renaming.{Renaming}

-- where no value is anywhere
abbrev pub no_home : ℕ → Option ℕ
no_home register = None

-- with the value of one more register in a place
abbrev pub with_home : ℕ → ℕ → (ℕ → Option ℕ) → ℕ → Option ℕ
with_home from place home register = if nat_eq from register then Some place else home register

-- with what is told, one after the other
abbrev pub home_after : (ℕ → Option ℕ) → List Holding → ℕ → Option ℕ
home_after home [] = home
home_after home (holding ∷ held) = home_after (with_home holding.register holding.place home) held

-- where the values of registers are, as told
abbrev pub home_of : List Holding → ℕ → Option ℕ
home_of held = home_after no_home held

-- of a row of which nothing is told: as if it did row 0 and needed nothing
abbrev pub origin_in : Option RowWitness → ℕ
origin_in (Some told) = told.origin
origin_in None = 0

abbrev pub holds_in : Option RowWitness → ℕ → Option ℕ
holds_in (Some told) = home_of told.held
holds_in None = no_home

-- the renaming that is told, row by row
abbrev pub renaming_of : List RowWitness → Renaming
renaming_of rows = record { origin = λ row. origin_in (slice_get rows row); holds = λ row. holds_in (slice_get rows row) }
