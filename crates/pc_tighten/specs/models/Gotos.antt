-- Rows that are a goto alone: which go in a round, and where rows stand then.
use Rattle.std.specs.Prelude.{◌≡◌, ℕ, ◌+◌, ◌-◌, ◌<◌, ◌≤◌, Bool, true, false, if◌then◌else◌, nat_eq, nat_lt, is_some, List, map, length, Option, Some, None, slice_get}
use Rattle.pc_word.specs.declared.item.Limits.{Limits}
use Rattle.pc_word.specs.Row.{Then, Either, At_leaf}
use Rattle.pc_machine.specs.MachineCode.{CodeRow, RowCode, target_of}
use Rattle.pc_tighten.specs.declared.removing.Places.{Places}
use Rattle.pc_tighten.specs.Removals.{HasNoGotoAlone}
use Rattle.pc_tighten.specs.Removing.{unmarked_rows, rank, placed_row, Shrinks}
use Rattle.pc_tighten.specs.models.Raising.{code_with, IsRaised}

-- ---- which rows go

-- where a row leads that is a goto alone
abbrev pub goto_of : CodeRow → Option ℕ
goto_of (Then item rest) = None
goto_of (Either on on_yes on_no) = None
goto_of (At_leaf leaf) = target_of leaf

-- where each row leads that is a goto alone
abbrev pub gotos_of : List CodeRow → List (Option ℕ)
gotos_of rows = map goto_of rows

-- where the row t leads, which is a goto alone to this row, unless t is row 0 or leads to itself
abbrev pub unless_stays : ℕ → Option (Option ℕ) → Option ℕ
unless_stays t (Some (Some u)) = if nat_eq t 0 then None else (if nat_eq u t then None else Some u)
unless_stays t (Some None) = None
unless_stays t None = None

-- where the row t leads, if it is a goto alone to another row, and not row 0
abbrev pub goto_target : List (Option ℕ) → ℕ → Option ℕ
goto_target gotos t = unless_stays t (slice_get gotos t)

-- this row, unless it leads on
abbrev pub unless_leads_on : ℕ → Option ℕ → Option ℕ
unless_leads_on u None = Some u
unless_leads_on u (Some w) = None

-- the row u to which t leads, if it stands further down or is no such row
abbrev pub if_at_end : List (Option ℕ) → ℕ → Option ℕ → Option ℕ
if_at_end gotos t None = None
if_at_end gotos t (Some u) = if nat_lt t u then Some u else unless_leads_on u (goto_target gotos u)

-- where what leads to the row t is sent on, if t goes in this round
abbrev pub sent_on : List (Option ℕ) → ℕ → Option ℕ
sent_on gotos t = if_at_end gotos t (goto_target gotos t)

-- whether a row goes in this round
abbrev pub goes : List (Option ℕ) → ℕ → Bool
goes gotos t = is_some (sent_on gotos t)

-- ---- where rows stand then

-- the number that a row gets, by its entry in the table; where no row stands, as many less as rows go
abbrev pub new_place_by : ℕ → ℕ → Option ℕ → ℕ
new_place_by gone row (Some place) = place
new_place_by gone row None = row - gone

-- the number that a row gets
abbrev pub new_place : Places → ℕ → ℕ
new_place it row = new_place_by it.gone row (slice_get it.places.items row)

-- a table with an entry for each row, and how many rows go in all
pub record AreCounted (gotos : List (Option ℕ)) (it : Places) : Type 0 where
  pub size : length it.places.items ≡ length gotos
  pub gone : rank (goes gotos) (length gotos) + it.gone ≡ length gotos

-- the place of each row is how many rows above it stay
pub record AreRanks (gotos : List (Option ℕ)) (it : Places) : Type 0 where
  pub counted : AreCounted gotos it
  pub ranks : (t : ℕ) → t < length gotos → slice_get it.places.items t ≡ Some (rank (goes gotos) t)

-- that of each row that stays is so, and from a number on each row that goes has the place of the row to which it leads
pub record ArePlacesFrom (gotos : List (Option ℕ)) (it : Places) (from : ℕ) : Type 0 where
  pub counted : AreCounted gotos it
  pub stays : (t : ℕ) → goes gotos t ≡ false → new_place it t ≡ rank (goes gotos) t
  pub sent : (t u : ℕ) → from ≤ t → sent_on gotos t ≡ Some u → new_place it t ≡ new_place it u

-- the rows that stay, whose leaves lead to the places of rows
abbrev pub rows_left : List (Option ℕ) → Places → List CodeRow → List CodeRow
rows_left gotos it rows = map (placed_row (new_place it)) (unmarked_rows (goes gotos) rows)

-- ---- round after round

-- rows come from others by removals, whatever else the code has
abbrev pub RowsShrink : List CodeRow → List CodeRow → Type 0
RowsShrink old new = (limits : Limits) (like : RowCode) → Shrinks (code_with limits like old) (code_with limits like new)

-- some rows went, or none was left to go
abbrev pub HasRemoved : List CodeRow → List CodeRow → Bool → Type 0
HasRemoved old new true = RowsShrink old new × (length new < length old)
HasRemoved old new false = (new ≡ old) × HasNoGotoAlone old

-- all are gone
pub record AreRemoved (old new : List CodeRow) : Type 0 where
  pub shrink : RowsShrink old new
  pub none_left : HasNoGotoAlone new

-- rows have gone, items of the others have gone up, and then rows have gone again
pub record AreTightened (limits : Limits) (before after : List CodeRow) : Type 0 where
  pub first : List CodeRow
  pub between : List CodeRow
  pub first_removed : AreRemoved before first
  pub raised : IsRaised limits first between
  pub removed : AreRemoved between after
